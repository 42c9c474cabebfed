-- The mission's second and third lines of a batch, over what `devvonur_batch` promises, for every input that it accepts.
-- That they hold is `claim` in `ClaimLaws`. And what the order of registrations doesn't change (W-205).
use Rattle.std.specs.Prelude.{ℕ, ◌*◌, ◌≤◌, ◌≡◌, true, length, drop}
use mathlib.Core.List.{List, [], ◌∷◌, ◌++◌, map, Permᴰ}
use Rattle.model.specs.Sizes.{answer_bytes}
use Rattle.model.specs.Columns.{Line, lines}
use Rattle.model.specs.QueueTable.{Table, accepted, read_table}
use Rattle.model.specs.Orders.{order_line}
use Rattle.model.specs.Reference.{State, Answer, held_flows, opened}
use Rattle.model.specs.Consistent.{consistent}
use Rattle.model.specs.Outcomes.{Decided}
use Rattle.model.specs.Timely.{Timely}
use Rattle.model.specs.Batch.{line_answers, answer_text}
use Rattle.model.specs.Part.{Part}
use Rattle.model.specs.AnyOrder.{AllAdmitted, slots_from, AnyOrder}
use Rattle.batch.specs.declared.BatchResult.{BatchResult}
use Rattle.batch.specs.View.{Batched}

-- What holds of the state between two lines: the flows then held are consistent, and in no run over them is a frame late.
pub record Sound (s : State) : Type 0 where
  pub is-consistent : consistent s ≡ true
  pub timely : Timely s.table (held_flows s.slots)

-- Line after line, each on the state that the one before left: its answer, and the state that it leaves, are those of the mission's second line.
pub data LineByLine : State → List Line → List Answer → Type 0 where
  end : {s : State} → Sound s → LineByLine s [] []
  line : {s next : State} {l : Line} {answer : Answer} {ls : List Line} {answers : List Answer}
      → Sound s
      → Decided s (order_line l) (record { answer = answer; next = next })
      → LineByLine next ls answers
      → LineByLine s (l ∷ ls) (answer ∷ answers)

-- An accepted batch: its table text was accepted, and the lines of its orders are answered one after the other from the registry just opened on it.
-- The answers stand in the area, 20 bytes each, and the bytes past them are as they were.
pub record Claimed (table orders area area' : List ℕ) (r : BatchResult) : Type 0 where
  pub links : Table
  pub read : read_table table ≡ accepted links
  pub count : r.line ≡ length (lines orders)
  pub written : area' ≡ answer_text 1 (line_answers (opened table) (lines orders)) ++ drop (answer_bytes * length (lines orders)) area
  pub each : LineByLine (opened table) (lines orders) (line_answers (opened table) (lines orders))

-- W-205: the lines are registrations, and the area begins with an answer line for each of them, all with code 0.
pub record ShownAdmitted (orders area' : List ℕ) : Type 0 where
  pub answers : List Answer
  pub rest : List ℕ
  pub shown : area' ≡ answer_text 1 answers ++ rest
  pub each : length answers ≡ length (lines orders)
  pub all : AllAdmitted (map order_line (lines orders)) answers

-- A batch that was done, every line admitted, with slots 1, 2, 3, ..; the bytes past the answers are as they were.
pub record AnsweredInTurn (orders area area' : List ℕ) (r : BatchResult) : Type 0 where
  pub code : r.code ≡ 0
  pub count : r.line ≡ length (lines orders)
  pub written : area' ≡ answer_text 1 (slots_from 1 (length (lines orders))) ++ drop (answer_bytes * length (lines orders)) area

-- W-205, of an accepted batch whose lines are shown admitted: other orders on the same table. That it holds is `any_order` in `ClaimLaws`.
pub record InAnyOrder (table orders area area' : List ℕ) (r : BatchResult) : Type 0 where
  -- Lines that are a part of these, in any order, are all admitted, in every area that is long enough for their answers.
  pub part : (orders₁ area₁ area₁' : List ℕ) (r₁ : BatchResult) → Batched table orders₁ area₁ area₁' r₁
      → answer_bytes * length (lines orders₁) ≤ length area₁
      → Part (lines orders₁) (lines orders)
      → AnsweredInTurn orders₁ area₁ area₁' r₁
  -- All of them in any order are answered the same, byte for byte.
  pub order : (orders₁ area₁' : List ℕ) (r₁ : BatchResult) → Batched table orders₁ area area₁' r₁ → Permᴰ (lines orders₁) (lines orders)
      → (r₁ ≡ r) × (area₁' ≡ area')
  -- The flows held after them, and the figures.
  pub held : AnyOrder order_line (opened table) (lines orders)
