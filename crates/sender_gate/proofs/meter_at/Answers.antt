-- `sender_gate::meter_at` meets its contract: no more is added than a full bucket has room for, so that no sum is above it.
use Rattle.std.proofs.Common.{ℕ, ◌*◌, ap, ◌∙◌, arith}
use Rattle.model.specs.Gate.{time_passed, tokens_at, metered}
use Rattle.model.proofs.Laws.Gate.{gate-bounds, length-bounds}
use Rattle.sender_gate.specs.View.{gate_of}
use Rattle.sender_gate.proofs.meter_at.Goals as goal

pub tokens_of-full-requires : goal.tokens_of-full-requires
tokens_of-full-requires c = (gate-bounds _ c.requires.0).burst.1

pub tokens_added-added-requires : goal.tokens_added-added-requires
unfolding time_passed
tokens_added-added-requires c = ((gate-bounds _ c.requires.0).rate.1, omega (arith, c.time_passed.ensures))

pub overflow_sub-full : goal.overflow_sub-full
overflow_sub-full c = omega (arith, (gate-bounds _ c.requires.0).tokens, c.tokens_of-full.ensures)

pub meter-requires : goal.meter-requires
meter-requires c = omega (arith, (length-bounds _ _ c.requires.1).1, (gate-bounds _ c.requires.0).frame.1)

pub returns-then-full-gate : goal.returns-then-full-gate
unfolding tokens_at
returns-then-full-gate c =
    let args = c.args in
    let added = c.tokens_added-added.ensures ∙ ap (λ (t : ℕ). args.gate.rate.0 * t) c.time_passed.ensures in
    c.meter.ensures
    ∙ ap (metered (gate_of args.gate) args.length.0 args.now) (omega (arith, added, c.tokens_of-full.ensures, c.if-full-gate.true))

pub meter-requires-2 : goal.meter-requires-2
meter-requires-2 c = omega (arith, (length-bounds _ _ c.requires.1).1, (gate-bounds _ c.requires.0).frame.1)

pub returns : goal.returns
unfolding tokens_at
returns c =
    let args = c.args in
    let added = c.tokens_added-added.ensures ∙ ap (λ (t : ℕ). args.gate.rate.0 * t) c.time_passed.ensures in
    c.meter-2.ensures
    ∙ ap (metered (gate_of args.gate) args.length.0 args.now) (omega (arith, added, (gate-bounds _ c.requires.0).tokens, c.tokens_of-full.ensures, c.if-full-gate.false))
