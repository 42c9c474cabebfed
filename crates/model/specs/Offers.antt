-- W-207: offers to a gate one after the other, what passes, and sources behind gates. The clock doesn't go back: an offer has a true time, any number of µs, and the gate gets its reading alone.
use Rattle.std.specs.Prelude.{ℕ, ◌+◌, ◌%◌, ◌≤◌, ◌<◌, ◌≡◌, Bool, cond, List, [], ◌∷◌, map, leb, eqb}
use Rattle.std.proofs.Math.Option.{Option, none, some}
use Rattle.std.proofs.Math.ListN.{get_elem?}
use Rattle.model.specs.Words.{filter}
use Rattle.model.specs.Orders.{Flow}
use Rattle.model.specs.Run.{Frame, bytes_of}
use Rattle.model.specs.Gate.{Gate, GateAnswer, turn, offer, open_gate}

-- A frame's bytes, and when it is offered.
pub record Offer : Type 0 where
  pub length : ℕ
  pub time : ℕ

-- The clock at a true time.
unfoldable pub reading_at : (time : ℕ) → ℕ
reading_at time = time % turn

-- Each offer is no earlier than the one before, the first no earlier than `from`.
abbrev pub NotBack : (from : ℕ) → List Offer → Type 0
NotBack from [] = Unit {0}
NotBack from (o ∷ os) = (from ≤ o.time) × NotBack o.time os

unfoldable pub answer_to : Gate → Offer → GateAnswer
answer_to g o = offer g o.length (reading_at o.time)

-- Each offer meets the gate that the one before left: all codes, and the gate in the end.
unfoldable pub offer_codes : Gate → List Offer → List ℕ
offer_codes g [] = []
offer_codes g (o ∷ os) = (answer_to g o).code ∷ offer_codes (answer_to g o).gate os

unfoldable pub after_offers : Gate → List Offer → Gate
after_offers g [] = g
after_offers g (o ∷ os) = after_offers (answer_to g o).gate os

-- Those of the offers whose code meets the test.
unfoldable pub with_code : (ℕ → Bool) → List Offer → (codes : List ℕ) → List Offer
with_code test [] codes = []
with_code test (o ∷ os) [] = []
with_code test (o ∷ os) (c ∷ cs) = cond (test c) (o ∷ with_code test os cs) (with_code test os cs)

-- Those that passed; and those whose reading was stored, passed or dropped.
abbrev pub passed : List Offer → (codes : List ℕ) → List Offer
passed = with_code (λ c. eqb c 0)

abbrev pub stored : List Offer → (codes : List ℕ) → List Offer
stored = with_code (λ c. leb c 1)

-- An answer that is neither 60 nor 61.
abbrev pub NotRefused : (code : ℕ) → Type 0
NotRefused c = (c ≡ 60 → ⊥) × (c ≡ 61 → ⊥)

-- When the last of them was offered.
unfoldable pub last_time : List Offer → Option ℕ
last_time [] = none
last_time (o ∷ []) = some o.time
last_time (o ∷ p ∷ os) = last_time (p ∷ os)

-- Each less than one turn after the one before, the first after `last`.
abbrev pub WithinTurns : (last : ℕ) → List Offer → Type 0
WithinTurns last [] = Unit {0}
WithinTurns last (o ∷ os) = (o.time < last + turn) × WithinTurns o.time os

-- The gate of a flow, opened at a true time with what the flow registered.
abbrev pub flow_gate : Flow → (opened : ℕ) → Gate
flow_gate f opened = (open_gate f.rate f.burst f.frame (reading_at opened)).gate

-- The frames that a source adds at instant `x` of a run where it sends each offer that passed at its time. `start` is the true time at instant 0.
unfoldable pub frames_at : (flow start : ℕ) → (passed : List Offer) → (x : ℕ) → List Frame
frames_at j start os x =
    map (λ o. record { flow = j; hop = 0; length = o.length; since = x; born = x }) (filter (λ o. eqb o.time (start + x)) os)

-- What the source of a flow adds behind its gate, opened once, of these offers.
abbrev pub behind_gate : (flow : ℕ) → Flow → (opened start : ℕ) → List Offer → (x : ℕ) → List Frame
behind_gate j f opened start os = frames_at j start (passed os (offer_codes (flow_gate f opened) os))

-- Each flow's source is behind a gate of its own, with a clock that may begin anywhere and whose µs are those of the run: at no instant it adds more bytes than pass there then. What is offered may have no end, so it is given up to each instant.
pub record BehindGates (fs : List Flow) (sent : ℕ → List Frame) : Type 0 where
  pub start : (flow : ℕ) → ℕ
  pub opened : (flow : ℕ) → ℕ
  pub offers : (flow until : ℕ) → List Offer
  pub not_back : (j until : ℕ) → NotBack (opened j) (offers j until)
  pub adds : (j : ℕ) (f : Flow) → get_elem? fs j ≡ some f → (until x : ℕ) → x ≤ until
      → bytes_of j (sent x) ≤ bytes_of j (behind_gate j f (opened j) (start j) (offers j until) x)
