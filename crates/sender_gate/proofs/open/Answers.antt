-- `sender_gate::open` meets its contract: tokens aside, a full gate is in range exactly when an empty one is.
use Rattle.std.proofs.Common.{◌≡◌, ℕ, true, false, sym, refl, ap, ◌∙◌, true≢false, arith}
use Rattle.model.specs.Gate.{Gate, tokens_of, gate_in_range, gate_with, no_gate, full_gate, open_gate}
use Rattle.model.proofs.Laws.Gate.{gate-bounds, with-ranged, opening-cases}
use Rattle.sender_gate.proofs.open.Goals as goal

module _ (rate burst frame now : ℕ) where
  abbrev empty : Gate
  empty = record { rate = rate; burst = burst; frame = frame; tokens = 0; reading = now }

  opened : gate_in_range empty ≡ true → record { code = 0; gate = gate_with empty (tokens_of burst) now } ≡ open_gate rate burst frame now
  unfolding open_gate gate_with
  opened e =
      opening-cases (full_gate rate burst frame now) (λ a. record { code = 0; gate = full_gate rate burst frame now } ≡ a)
      (λ k. absurd (true≢false (sym (with-ranged empty (tokens_of burst) now e (omega arith)) ∙ k)))
      (λ k. refl)

  refused : gate_in_range empty ≡ false → record { code = 61; gate = no_gate } ≡ open_gate rate burst frame now
  unfolding open_gate gate_with
  refused e =
      opening-cases (full_gate rate burst frame now) (λ a. record { code = 61; gate = no_gate } ≡ a) (λ k. refl)
      (λ k. absurd (true≢false (sym (with-ranged (full_gate rate burst frame now) 0 now k (omega arith)) ∙ e)))

pub returns-then-not-in_range : goal.returns-then-not-in_range
unfolding gate_with no_gate
returns-then-not-in_range c =
    c.answer.ensures
    ∙ ap (λ (g : Gate). record { code = 61; gate = gate_with g 0 0 }) c.no_gate.ensures
    ∙ refused _ _ _ _ (sym c.in_range.ensures ∙ c.if-not-in_range.true)

pub tokens_of-requires : goal.tokens_of-requires
tokens_of-requires c = (gate-bounds _ (sym c.in_range.ensures ∙ c.if-not-in_range.false)).burst.1

pub returns : goal.returns
returns c =
    let args = c.args in
    c.answer-2.ensures
    ∙ ap (λ (t : ℕ). record { code = 0; gate = gate_with (empty args.rate.0 args.burst.0 args.frame.0 args.now) t args.now }) c.tokens_of.ensures
    ∙ opened _ _ _ _ (sym c.in_range.ensures ∙ c.if-not-in_range.false)
