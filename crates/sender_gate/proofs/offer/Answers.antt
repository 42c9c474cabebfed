-- `sender_gate::offer` meets its contract: its tests are the definition's, in the same order.
use Rattle.std.proofs.Common.{◌≡◌, ℕ, Bool, true, cond, sym, refl, ◌∙◌, ap₂}
use Rattle.model.specs.Gate.{Gate, gate_in_range, length_in_range, gate_with, tokens_at, metered, offer}
use Rattle.sender_gate.specs.View.{gate_of}
use Rattle.sender_gate.proofs.offer.Goals as goal
use Rattle.sender_gate.proofs.offer.Tie as tie
use Rattle.sender_gate.proofs.offer.Lts as lts
use Rattle.sender_gate.proofs.offer.Reads as reads

-- By what the two tests say.
decided : (g : Gate) (length now : ℕ) {range fits : Bool} → gate_in_range g ≡ range → length_in_range g length ≡ fits
    → offer g length now ≡ cond range (cond fits (metered g length now (tokens_at g now)) (record { code = 60; gate = g })) (record { code = 61; gate = g })
unfolding offer
decided g length now range fits =
    ap₂ (λ (a b : Bool). cond a (cond b (metered g length now (tokens_at g now)) (record { code = 60; gate = g })) (record { code = 61; gate = g })) range fits

-- Past the first test the gate is in range, past the second the frame is too.
ranged : (c : lts.Else1 tie.the-claims reads.Pre reads.Post) → gate_in_range (gate_of c.args.gate) ≡ true
ranged c = sym c.in_range.ensures ∙ c.if-not-in_range.false

fitting : (c : lts.Else2 tie.the-claims reads.Pre reads.Post) → length_in_range (gate_of c.args.gate) c.args.length.0 ≡ true
unfolding length_in_range
fitting c = sym c.within.ensures ∙ c.if-not-within.false

pub returns-then-not-in_range : goal.returns-then-not-in_range
unfolding gate_with
returns-then-not-in_range c =
    let args = c.args in
    c.answer.ensures ∙ sym (decided (gate_of args.gate) args.length.0 args.now (sym c.in_range.ensures ∙ c.if-not-in_range.true) refl)

pub returns-then-not-within : goal.returns-then-not-within
unfolding gate_with length_in_range
returns-then-not-within c =
    let args = c.args in
    c.answer-then-not-within.ensures ∙ sym (decided (gate_of args.gate) args.length.0 args.now (ranged c.before.before.before.before) (sym c.within.ensures ∙ c.if-not-within.true))

pub meter_at-requires : goal.meter_at-requires
meter_at-requires c = (ranged c.before.before, fitting (c))

pub returns : goal.returns
returns c =
    let args = c.args in
    c.meter_at.ensures ∙ sym (decided (gate_of args.gate) args.length.0 args.now (ranged c.before.before.before) (fitting c.before))
