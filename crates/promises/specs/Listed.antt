-- The mission's first line over what the contracts promise: every input ends in an answer that document 01 lists, and what is refused changes
-- nothing. The lists stand in `model`'s `Codes`. That it holds is `open-listed`, `call-listed` and `batch-listed` in `ListedLaws`.
-- The writer's part stands in `Handover`.
use Rattle.std.specs.Prelude.{ℕ, ◌*◌, ◌<◌, ◌≡◌, length, drop}
use mathlib.Core.List.{List, [], ◌∷◌, ◌++◌, Memᴰ}
use Rattle.model.specs.Sizes.{queues_most, answer_bytes}
use Rattle.model.specs.Columns.{Line, lines}
use Rattle.model.specs.Orders.{order_line}
use Rattle.model.specs.Reference.{State, Answer, Call, call_order, apply, opened}
use Rattle.model.specs.Codes.{open_codes, batch_codes, order_codes, call_codes, Listed, TextListed, text_code, BatchListed}
use Rattle.model.specs.Batch.{line_answers, answer_text}
use Rattle.queue_table.specs.View.{table_of, text_of}
use Rattle.figures.specs.View.{figure_at}
use Rattle.admission.specs.View.{answer_of}
use Rattle.batch.specs.declared.BatchResult.{BatchResult}
use Rattle.registry.specs.declared.Registry.{Registry}
use Rattle.registry.specs.declared.Opened.{Opened}
use Rattle.registry.specs.declared.Called.{Called}
use Rattle.registry.specs.View.{state_in, Consistent}

-- A registry opened on any text.
pub record OpenListed (text : List ℕ) (o : Opened) : Type 0 where
  pub code : Memᴰ (text_code (text_of o.verdict (table_of o.registry.table))) open_codes
  pub listed : TextListed text (text_of o.verdict (table_of o.registry.table))

-- A call of any kind with any bytes on any registry whatever.
pub record CallListed (before : Registry) (c : Call) (called : Called) : Type 0 where
  pub code : Memᴰ (answer_of called.answer).code call_codes
  -- On a consistent registry: an answer line's, and with another code than 0 neither flows nor figures change.
  pub listed : Consistent before → Listed (state_in before) (call_order c) (answer_of called.answer)
  pub unchanged : Consistent before → ((answer_of called.answer).code ≡ 0 → ⊥)
      → (state_in called.registry ≡ state_in before) × ((e : ℕ) → e < queues_most → figure_at called.registry.figures e ≡ figure_at before.figures e)
  -- On another: 42, which names nothing, and the registry as it was.
  pub spoilt : (Consistent before → ⊥)
      → (answer_of called.answer ≡ record { code = 42; slot = 0; link = 0; level = 0 }) × (called.registry ≡ before)

-- The answer lines of a batch, each to a line of its orders on the state that the lines before left.
pub data LinesListed : State → List Line → List Answer → Type 0 where
  end : {s : State} → LinesListed s [] []
  line : {s : State} {l : Line} {a : Answer} {ls : List Line} {answers : List Answer}
      → Memᴰ a.code order_codes
      → Listed s (order_line l) a
      → LinesListed (apply s (order_line l)).next ls answers
      → LinesListed s (l ∷ ls) (a ∷ answers)

-- A batch over any three areas.
pub record BatchAnswers (table orders area area' : List ℕ) (r : BatchResult) : Type 0 where
  pub code : Memᴰ r.code batch_codes
  pub listed : BatchListed table orders r.code r.line
  -- Refused, it leaves every byte of the area.
  pub unwritten : (r.code ≡ 0 → ⊥) → area' ≡ area
  -- Accepted, it writes an answer line for each line of the orders, and leaves the bytes past them.
  pub written : r.code ≡ 0 → area' ≡ answer_text 1 (line_answers (opened table) (lines orders)) ++ drop (answer_bytes * length (lines orders)) area
  pub lines-listed : LinesListed (opened table) (lines orders) (line_answers (opened table) (lines orders))
