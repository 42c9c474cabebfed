-- A held slot's path lies in the pool, and is as long as its hop count says.
use Rattle.std.proofs.Common.{length, sym, ap, ◌∙◌}
use Rattle.model.specs.Orders.{Head}
use Rattle.flow_store.proofs.ViewLaws.{path_inside, readable}
use Rattle.order_text.proofs.TextLaws.{named-long}
use Rattle.replay.proofs.show_slot.Goals as goal

pub path_of-path-requires : goal.path_of-path-requires
path_of-path-requires g c =
    let stored = c.requires.0 in
    (stored.store_long, c.requires.1, path_inside _ _ stored.packed c.args.slot c.requires.1 (sym c.is_held.ensures ∙ c.if-not-is_held.false))

pub show_flow-requires : goal.show_flow-requires
show_flow-requires g c =
    let args = c.args in (
      c.requires.1,
      ap (λ (h : Head). h.hops) c.flow_at.ensures.result_value
          ∙ sym (named-long args.bits.now args.store.now (readable _ _ c.requires.0) args.slot c.requires.1 (sym c.is_held.ensures ∙ c.if-not-is_held.false))
          ∙ sym (ap length c.path_of-path.ensures),
      c.if-path-gt-MOST_HOPS.false,
    )
