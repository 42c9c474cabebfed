-- `sender_gate::in_range` meets its contract: its tests are the definition's, in the same order.
use Rattle.std.proofs.Common.{◌≡◌, ◌&&◌, leb, sym, ap, ◌∙◌}
use Rattle.model.specs.Orders.{rate_in_range, burst_in_range, frame_in_range}
use Rattle.model.specs.Gate.{gate_in_range}
use Rattle.model.proofs.Laws.Test.{and_both}
use Rattle.model.proofs.Laws.Columns.{between-true}
use Rattle.sender_gate.proofs.in_range.Goals as goal
use Rattle.sender_gate.proofs.in_range.Goals.{then-rate_in_range, else-rate_in_range, then-burst_in_range, else-burst_in_range, then-frame_in_range, else-frame_in_range}
use Rattle.sender_gate.proofs.in_range.Tie as tie
use Rattle.sender_gate.proofs.in_range.Lts as lts
use Rattle.sender_gate.proofs.in_range.Reads as reads

module _ (c : lts.Joined3 tie.the-claims reads.Pre reads.Post) where
  two : c.if-rate_in_range.value ≡ (rate_in_range c.args.gate.rate.0 && burst_in_range c.args.gate.burst.0)
  two =
      elim c.if-rate_in_range.branch [
        | then-rate_in_range w ↦ rw (sym c.rate_in_range.ensures ∙ w.if-rate_in_range.true) (w.value-is ∙ w.burst_in_range.ensures)
        | else-rate_in_range w ↦ rw (sym c.rate_in_range.ensures ∙ w.if-rate_in_range.false) (w.value-is ∙ w.if-rate_in_range.false)
      ]

  three : c.if-burst_in_range.value ≡ (rate_in_range c.args.gate.rate.0 && burst_in_range c.args.gate.burst.0 && frame_in_range c.args.gate.frame.0)
  three =
      elim c.if-burst_in_range.branch [
        | then-burst_in_range w ↦ rw (sym two ∙ w.if-burst_in_range.true) (w.value-is ∙ w.frame_in_range.ensures)
        | else-burst_in_range w ↦ rw (sym two ∙ w.if-burst_in_range.false) (w.value-is ∙ w.if-burst_in_range.false)
      ]

  four : c.if-frame_in_range.value ≡ (rate_in_range c.args.gate.rate.0 && burst_in_range c.args.gate.burst.0 && frame_in_range c.args.gate.frame.0 && leb c.args.gate.frame.0 c.args.gate.burst.0)
  four =
      elim c.if-frame_in_range.branch [
        | then-frame_in_range w ↦ rw (sym three ∙ w.if-frame_in_range.true) w.value-is
        | else-frame_in_range w ↦ rw (sym three ∙ w.if-frame_in_range.false) (w.value-is ∙ w.if-frame_in_range.false)
      ]

pub tokens_of-requires : goal.tokens_of-requires
tokens_of-requires c =
    let gate = c.args.gate in
    let before_last = (and_both (rate_in_range gate.rate.0 && burst_in_range gate.burst.0 && frame_in_range gate.frame.0) _ (sym (four c.before.before) ∙ c.if-gate.true)).0 in
    let burst = (and_both (rate_in_range gate.rate.0) _ (and_both (rate_in_range gate.rate.0 && burst_in_range gate.burst.0) _ before_last).0).1 in
    (between-true 84 1000000 gate.burst.0 burst).1

pub returns-then-gate : goal.returns-then-gate
unfolding gate_in_range
returns-then-gate c = rw (sym (four c.before.before.before.before.before) ∙ c.if-gate.true) (ap (leb c.args.gate.tokens.0) c.tokens_of.ensures)

pub returns-else-gate : goal.returns-else-gate
unfolding gate_in_range
returns-else-gate c = rw (sym (four c.before) ∙ c.if-gate.false) c.if-gate.false
