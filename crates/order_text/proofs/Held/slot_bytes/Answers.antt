-- `order_text::Held::slot_bytes` meets its contract: nothing of a free slot, else its line's bytes by its hop count.
use Rattle.std.proofs.Common.{length, ap, sym, arith}
use Rattle.model.specs.Orders.{Head}
use Rattle.order_text.proofs.TextLaws.{free-text, held-size}
use Rattle.order_text.proofs.Held.slot_bytes.Goals as goal

pub returns-then-not-is_held-clause-value : goal.returns-then-not-is_held-clause-value
returns-then-not-is_held-clause-value c =
    rw (← c.self.view_is)
    (sym (ap length (free-text _ _ c.self.invariant c.args.slot c.requires (cc))))

pub returns-clause-value : goal.returns-clause-value
returns-clause-value c =
    let hops = ap (λ (h : Head). h.hops) c.flow_at-flow.ensures.result_value in
    rw (← c.self.view_is)
    (omega (arith, hops, held-size _ _ c.self.invariant c.args.slot c.requires (cc)))
