-- `order_text::Held::write_slot` meets its contract: nothing for a free slot, else the line of its flow.
use Rattle.std.proofs.Common.{◌≡◌, ℕ, List, ◌++◌, map, length, drop, sym, ap, ap₂, ◌∙◌, arith}
use Rattle.model.specs.Orders.{Head, flow_of}
use Rattle.model.specs.Handover.{flow_line}
use Rattle.queue_table.specs.View.{hop_at}
use Rattle.orders.specs.View.{fields_of}
use Rattle.order_text.specs.View.{line_at}
use Rattle.order_text.proofs.TextLaws.{free-text, held-text, named-long, held-size}
use Rattle.order_text.proofs.Held.write_slot.Goals as goal

pub returns-then-not-is_held : goal.returns-then-not-is_held
returns-then-not-is_held c =
    let nothing = free-text _ _ c.self.invariant c.args.slot c.requires.0 (cc) in
    rw (← c.self.view_is)
    (record {
      part_after = ap (λ (t : List ℕ). t ++ c.args.part.now) (sym nothing);
      value = sym (ap length nothing);
    })

pub path_of-path-requires : goal.path_of-path-requires
path_of-path-requires c =
    let readable = c.self.invariant in
    (readable.store_long, c.requires.0, readable.inside c.args.slot c.requires.0 (cc))

pub write_line-requires : goal.write_line-requires
write_line-requires c =
    let hops = ap (λ (h : Head). h.hops) c.flow_at.ensures.result_value in
    let long = ap length c.path_of-path.ensures ∙ named-long _ _ c.self.invariant c.args.slot c.requires.0 (cc) in
    let room = rw (← c.self.view_is) at c.requires.1 in
    (hops ∙ sym long, omega (arith, long, room, held-size _ _ c.self.invariant c.args.slot c.requires.0 (cc)))

pub returns : goal.returns
returns c =
    let slot = c.args.slot in
    let line = c.write_line in
    let own : flow_line (flow_of (fields_of c.flow_at.result) (map hop_at c.path_of-path.result.now)) ≡ line_at c.self.inside.bits.now c.self.inside.store.now slot =
    ap₂ (λ (h : Head) (es : List ℕ). flow_line (flow_of h (map hop_at es))) c.flow_at.ensures.result_value c.path_of-path.ensures
    ∙ sym (held-text _ _ c.self.invariant slot c.requires.0 (cc)) in
    rw (← c.self.view_is)
    (record {
      part_after = line.ensures.part_after ∙ ap (λ (t : List ℕ). t ++ drop line.result c.args.part.now) own;
      value = line.ensures.value ∙ ap length own;
    })
