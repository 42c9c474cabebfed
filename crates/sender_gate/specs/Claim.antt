-- W-207 over what the contracts promise: a gate opened once, and any list of offers to it. That it holds is `claim` and `since` in `ClaimLaws`.
use Rattle.std.specs.Prelude.{◌≡◌, ℕ, ◌+◌, ◌≤◌, true, List, [], ◌∷◌, ◌++◌}
use Rattle.std.proofs.Math.Option.{none, some}
use Rattle.model.specs.Formula.{ceil_div}
use Rattle.model.specs.Orders.{Flow}
use Rattle.model.specs.Run.{Conforming}
use Rattle.model.specs.Gate.{tokens_of, gate_in_range}
use Rattle.model.specs.Offers as model
use Rattle.model.specs.Offers.{Offer, reading_at, NotBack, offer_codes, after_offers, passed, stored, NotRefused, last_time, WithinTurns, frames_at}
use Rattle.sender_gate.specs.declared.Gate.{Gate}
use Rattle.sender_gate.specs.declared.GateAnswer.{GateAnswer}
use Rattle.sender_gate.specs.View.{gate_of, Opens, Offers}

-- An offer at its true time, of which the gate gets the reading.
abbrev pub OffersAt : Gate → Offer → GateAnswer → Type 0
OffersAt g o a = Offers g o.length (reading_at o.time) a

-- Offer after offer, each to the gate that the one before left, nobody else writing it.
pub data Chain : (first : Gate) (offers : List Offer) (codes : List ℕ) (last : Gate) → Type 0 where
  end : {g : Gate} → Chain g [] [] g
  next : {before last : Gate} {o : Offer} {a : GateAnswer} {os : List Offer} {codes : List ℕ}
      → OffersAt before o a
      → Chain a.gate os codes last
      → Chain before (o ∷ os) (a.code ∷ codes) last

-- A gate with what a flow registered, opened once at a true time, and what came of offers to it. Opened again it is full again: nothing is said over two openings.
pub record Gated (f : Flow) (opened : ℕ) (os : List Offer) (codes : List ℕ) (last : Gate) : Type 0 where
  pub answer : GateAnswer
  pub opens : Opens f.rate f.burst f.frame (reading_at opened) answer
  pub chain : Chain answer.gate os codes last

-- What is promised of it.
pub record Claimed (f : Flow) (opened : ℕ) (os : List Offer) (codes : List ℕ) (last : Gate) : Type 0 where
  -- The codes and the gate in the end are the model's.
  pub answered : codes ≡ offer_codes (model.flow_gate f opened) os
  pub left : gate_of last ≡ after_offers (model.flow_gate f opened) os
  -- Once opened, its numbers stay in range: tokens are never above full.
  pub keeps : gate_in_range (model.flow_gate f opened) ≡ true → gate_in_range (gate_of last) ≡ true
  -- Where the clock doesn't go back, what passed conforms to the registered bucket over every window; `start` is the true time at instant 0.
  pub conforms : NotBack opened os → (start : ℕ) → Conforming (f ∷ []) (frames_at 0 start (passed os codes))
  -- Of one offer more that isn't refused: where none has passed before, it passes.
  pub first : (o : Offer) {a : GateAnswer} → OffersAt last o a → NotRefused a.code → last_time (passed os codes) ≡ none → a.code ≡ 0
  -- Where the clock doesn't go back and stored readings are less than one turn apart, it passes ceil(8000 × bytes / rate) µs or more after the last that passed, drops in between or not.
  pub again : (o : Offer) {a : GateAnswer} → OffersAt last o a → NotRefused a.code → NotBack opened (os ++ (o ∷ []))
      → WithinTurns opened (stored (os ++ (o ∷ [])) (codes ++ (a.code ∷ [])))
      → (p : ℕ) → last_time (passed os codes) ≡ some p → p + ceil_div (tokens_of o.length) f.rate ≤ o.time
      → a.code ≡ 0

-- The same since a frame passed at p, whatever was before: of a gate in range that stored the reading of p, and offers to it of which none passed.
abbrev pub PassesSince : (g : Gate) (p : ℕ) (os : List Offer) (codes : List ℕ) (last : Gate) → Type 0
PassesSince g p os codes last =
    (o : Offer) (a : GateAnswer) → OffersAt last o a → NotRefused a.code → NotBack p (os ++ (o ∷ [])) → WithinTurns p (stored (os ++ (o ∷ [])) (codes ++ (a.code ∷ [])))
    → last_time (passed os codes) ≡ none
    → p + ceil_div (tokens_of o.length) g.rate.0 ≤ o.time
    → a.code ≡ 0
