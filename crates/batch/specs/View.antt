-- What the parts of a batch say in the terms of the model.
use Rattle.std.specs.Prelude.{ℕ, ◌*◌, ◌≤◌, ◌≡◌, List, [], ◌∷◌, length, replicate, Bool, eqb, Result, Ok, Err}
use Rattle.model.specs.Sizes.{order_lines, answer_bytes}
use Rattle.model.specs.Columns.{Line, lines}
use Rattle.model.specs.QueueTable.{accepted}
use Rattle.model.specs.Batch as model
use Rattle.queue_table.specs.View.{table_of, fault_code}
use Rattle.flow_store.specs.View.{slot_words, store_numbers}
use Rattle.figures.specs.View.{figure_numbers}
use Rattle.admission.specs.View.{state_of, answer_of, ConsistentArrays}
use Rattle.causes.specs.declared.Cause.{Cause}
use Rattle.batch.specs.declared.BatchResult.{BatchResult}
use Rattle.batch.specs.declared.Refusal.{Refusal}
use Rattle.batch.specs.declared.Refusal.TheVariants.{Table, OrdersTooLong, AreaTooShort}

abbrev pub is_lf : ℕ → Bool
is_lf byte = eqb byte 10

-- The arrays of an empty registry.
unfoldable pub no_bits : List ℕ
no_bits = replicate slot_words 0

unfoldable pub no_flows : List ℕ
no_flows = replicate store_numbers 0

unfoldable pub no_figures : List ℕ
no_figures = replicate figure_numbers 0

-- A line was answered, and the others, whichever they are, go on from the registry left behind.
pub record LineDone (line : Line) (table bits store bits' store' figures' : List ℕ) (r : Result ℕ Cause) : Type 0 where
  pub same : (left : List Line)
      → model.line_answers (state_of table bits store) (line ∷ left)
      ≡ answer_of r ∷ model.line_answers (state_of table bits' store') left
  pub kept : ConsistentArrays table bits' store' figures'

-- Neither 41 for its lines nor 40.
pub record Answerable (orders area : List ℕ) : Type 0 where
  pub few : length (lines orders) ≤ order_lines
  pub long : answer_bytes * length (lines orders) ≤ length area

-- The answers stand in the area, from the registry of these arrays on.
abbrev pub Answered : (orders table bits store area area' : List ℕ) → Type 0
Answered orders table bits store area area' = area' ≡ (model.done_batch (state_of table bits store) (lines orders) area).area

abbrev pub result_of : BatchResult → (area : List ℕ) → model.Batch
result_of r area = record { code = r.code; line = r.line; area = area }

-- 1 to 5 with the table's line, 41 and 40 with line 0; nothing is written.
abbrev pub refused_with : Refusal → (area : List ℕ) → model.Batch
refused_with (Table of_table) area = model.refused_batch (fault_code of_table.fault) of_table.line area
refused_with OrdersTooLong area = model.refused_batch 41 0 area
refused_with AreaTooShort area = model.refused_batch 40 0 area

-- 0 with the count of order lines, or a refusal.
abbrev pub batch_of : Result ℕ Refusal → (area : List ℕ) → model.Batch
batch_of (Ok count) area = record { code = 0; line = count; area = area }
batch_of (Err refusal) area = refused_with refusal area

-- The same as the numbers that a host in C gets.
abbrev pub result_in : Result ℕ Refusal → BatchResult
result_in (Ok count) = record { code = 0; line = count }
result_in (Err refusal) = record { code = (refused_with refusal []).code; line = (refused_with refusal []).line }

-- The orders were judged and answered on an empty registry.
abbrev pub OrdersDone : (table orders area area' : List ℕ) → Result ℕ Refusal → Type 0
OrdersDone table orders area area' r =
    batch_of r area' ≡ model.after_table (accepted (table_of table)) (state_of table no_bits no_flows) orders area

-- Code, line and every byte of the area are those of the model.
abbrev pub Batched : (table orders area area' : List ℕ) → BatchResult → Type 0
Batched table orders area area' r = result_of r area' ≡ model.batch table orders area
