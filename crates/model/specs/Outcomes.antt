-- What is said of one order on the reference model: refused, admitted, released, changed, decided as the mission's second line has it; lacking room.
use Rattle.std.specs.Prelude.{ℕ, suc, ◌+◌, ◌≤◌, ◌<◌, ◌≡◌, true, ◌⊎◌, ◌↔◌, List, [], ◌∷◌, ◌++◌, length, get_or, set}
use Rattle.std.proofs.Math.Option.{Option, none, some}
use Rattle.model.specs.Words.{All}
use Rattle.model.specs.Sizes.{slot_count, hop_entries}
use Rattle.model.specs.Orders as orders
use Rattle.model.specs.Orders.{Flow, Change, Order, register}
use Rattle.model.specs.Reference.{Slot, State, Cause, Outcome, held_flows, held_hops, with_number, number_finding, line_findings, deadline_finding, room_findings, changed, findings}
use Rattle.model.specs.Consistent.{consistent}
use Rattle.model.specs.Admissible.{Admissible}

-- None of the findings applies.
abbrev pub NoneApplies : List (Option Cause) → Type 0
NoneApplies = All (λ x. x ≡ none)

-- The cause `c` is the first of the findings that applies.
pub record First (l : List (Option Cause)) (c : Cause) : Type 0 where
  pub earlier : List (Option Cause)
  pub later : List (Option Cause)
  pub listed : l ≡ earlier ++ some c ∷ later
  pub passed : NoneApplies earlier

-- A refused order: the listed cause that comes first is answered, and nothing changes.
pub record Refused (s : State) (o : Order) (out : Outcome) : Type 0 where
  pub cause : Cause
  pub first : First (findings s o) cause
  pub answer : out.answer ≡ record { code = cause.code; slot = 0; link = cause.link; level = cause.level }
  pub next : out.next ≡ s

-- The slot at an index, counted from 0, with new contents; every other slot and the table as they were.
abbrev pub with_slot : State → (index : ℕ) (contents : Slot) → State
with_slot s index contents = record { table = s.table; slots = set s.slots index contents }

-- An admission: the flow, just as its line gives it, stands in the lowest free slot, which is answered.
pub record Admitted (s : State) (f : Flow) (out : Outcome) : Type 0 where
  pub index : ℕ
  pub inside : index < length s.slots
  pub free : get_or s.slots index none ≡ none
  pub lowest : (j : ℕ) → j < index → get_or s.slots j none ≡ none → ⊥
  pub answer : out.answer ≡ record { code = 0; slot = suc index; link = 0; level = 0 }
  pub next : out.next ≡ with_slot s index (some f)

-- A release: the slot that held the flow with this number is empty, and is answered.
pub record Released (s : State) (n : ℕ) (out : Outcome) : Type 0 where
  pub index : ℕ
  pub inside : index < length s.slots
  pub flow : Flow
  pub held : get_or s.slots index none ≡ some flow
  pub number : flow.number ≡ n
  pub answer : out.answer ≡ record { code = 0; slot = suc index; link = 0; level = 0 }
  pub next : out.next ≡ with_slot s index none

-- A change: the slot that held the flow with this number holds it with the new rate and burst, all else of it kept, and is answered.
pub record Changed (s : State) (c : Change) (out : Outcome) : Type 0 where
  pub index : ℕ
  pub inside : index < length s.slots
  pub flow : Flow
  pub held : get_or s.slots index none ≡ some flow
  pub number : flow.number ≡ c.number
  pub answer : out.answer ≡ record { code = 0; slot = suc index; link = 0; level = 0 }
  pub next : out.next ≡ with_slot s index (some (changed c flow))

-- An order that answers 0 is a registration, a release or a change, and was carried out.
pub data Done (s : State) (o : Order) (out : Outcome) : Type 0 where
  admission : (f : Flow) → o ≡ register f → Admitted s f out → Done s o out
  release : (n : ℕ) → o ≡ orders.release n → Released s n out → Done s o out
  change : (c : Change) → o ≡ orders.change c → Changed s c out → Done s o out

-- None of 12, 14 to 17, 30 and 31 against a registration.
pub record NoneOthers (s : State) (f : Flow) : Type 0 where
  pub number : number_finding (held_flows s.slots) f ≡ none
  pub line : NoneApplies (line_findings s.table f)
  pub room : NoneApplies (room_findings s.slots f)

-- W-206: the flow of a change is held, and the held flows with this one so changed are consistent, 17 among what that asks.
pub record Changeable (s : State) (c : Change) : Type 0 where
  pub index : ℕ
  pub flow : Flow
  pub held : get_or s.slots index none ≡ some flow
  pub number : flow.number ≡ c.number
  pub meets : consistent (with_slot s index (some (changed c flow))) ≡ true

-- Mission, line 2: the order `o` on the state `s` is answered, and leaves the state, as document 01 decides it. A registration that was read answers 0 if
-- and only if none of 12, 14 to 17, 30 and 31 is against it and the threshold-based model admits it; a release, if and only if its flow number is held; a
-- change, if and only if it is and the held flows, with this one so changed, are consistent. Any other code is the cause that comes first.
pub record Decided (s : State) (o : Order) (out : Outcome) : Type 0 where
  pub exactly : (f : Flow) → o ≡ register f → (out.answer.code ≡ 0) ↔ (NoneOthers s f × Admissible s.table (held_flows s.slots) f)
  pub held : (n : ℕ) → o ≡ orders.release n → (out.answer.code ≡ 0) ↔ (1 ≤ with_number n (held_flows s.slots))
  pub changed : (c : Change) → o ≡ orders.change c → (out.answer.code ≡ 0) ↔ Changeable s c
  pub done : out.answer.code ≡ 0 → Done s o out
  pub refused : (out.answer.code ≡ 0 → ⊥) → Refused s o out

-- The causes before 30, after 10 and 11.
unfoldable pub early_findings : State → Flow → List (Option Cause)
early_findings s f = number_finding (held_flows s.slots) f ∷ line_findings s.table f ++ deadline_finding s.table f ∷ []

-- The answer lacks room.
abbrev pub NoRoom : (code : ℕ) → Type 0
NoRoom code = (code ≡ 30) ⊎ (code ≡ 31)

-- Every slot is held, or the held hop entries and the path's exceed the hop entries.
abbrev pub Full : State → Flow → Type 0
Full s f = (length (held_flows s.slots) ≡ slot_count) ⊎ (hop_entries < held_hops (held_flows s.slots) + length f.path)
