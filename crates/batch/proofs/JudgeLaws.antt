-- What a batch comes to on each way: the table's refusal, 41, 40, or done.
-- Assumes nothing.
use Prim.Native.Nat.{ℕ, ◌*◌, ◌≤◌, ◌<◌}
use mathlib.Core.Path.{◌≡◌, refl, ap, ap₂}
use mathlib.Core.List.{List}
use borrow.Author.Tests.{lt-ltb, le-ltb}
use lib.ListN.{length}
use Rattle.model.specs.Sizes.{order_bytes, order_lines, answer_bytes}
use Rattle.model.specs.Columns.{lines}
use Rattle.model.specs.QueueTable.{Table, TableText, accepted}
use Rattle.model.specs.Reference.{State, opened}
use Rattle.model.specs.Batch.{Batch, refused_batch, done_batch, too_long, too_short, after_table, batch}
use Rattle.std.specs.Prelude.{Result, Ok, Err}
use Rattle.queue_table.specs.declared.Refusal.{Refusal}
use Rattle.queue_table.specs.View.{table_of, fault_code, TableFilled}
use Rattle.flow_store.specs.View.{slot_words, store_numbers}
use Rattle.figures.specs.View.{figure_numbers}
use Rattle.admission.specs.View.{state_of, ConsistentArrays}
use Rattle.admission.proofs.OpenLaws.{empty, empty-consistent}
use Rattle.batch.specs.declared.Refusal as whole
use Rattle.batch.specs.declared.Refusal.TheVariants.{Table as OfTable, OrdersTooLong, AreaTooShort}
use Rattle.batch.specs.View.{no_bits, no_flows, no_figures, result_of, result_in, batch_of}

module _ (t : Table) (s : State) (orders area : List ℕ) where
  abbrev judged : Batch
  judged = after_table (accepted t) s orders area

  pub judged-long : order_bytes < length orders → judged ≡ refused_batch 41 0 area
  unfolding after_table too_long
  judged-long long = simp (lt-ltb order_bytes (length orders) long)

  module _ (within : length orders ≤ order_bytes) where
    pub judged-many : order_lines < length (lines orders) → judged ≡ refused_batch 41 0 area
    unfolding after_table too_long
    judged-many many = simp (le-ltb order_bytes (length orders) within, lt-ltb order_lines (length (lines orders)) many)

    module _ (few : length (lines orders) ≤ order_lines) where
      pub judged-short : length area < answer_bytes * length (lines orders) → judged ≡ refused_batch 40 0 area
      unfolding after_table too_long too_short
      judged-short short =
          simp (le-ltb order_bytes (length orders) within, le-ltb order_lines (length (lines orders)) few, lt-ltb (length area) (answer_bytes * length (lines orders)) short)

      pub judged-done : answer_bytes * length (lines orders) ≤ length area → judged ≡ done_batch s (lines orders) area
      unfolding after_table too_long too_short
      judged-done room =
          simp (le-ltb order_bytes (length orders) within, le-ltb order_lines (length (lines orders)) few, le-ltb (length area) (answer_bytes * length (lines orders)) room)

-- A table that was accepted.
module _ (text table : List ℕ) (filled : TableFilled text (Ok tt) table) where
  pub empty-registry : ConsistentArrays table no_bits no_flows no_figures
  unfolding no_bits no_flows no_figures
  empty-registry = empty-consistent text table (Ok tt) filled slot_words store_numbers figure_numbers refl refl refl

  starts : state_of table no_bits no_flows ≡ opened text
  unfolding no_bits no_flows
  starts = empty text table (Ok tt) filled slot_words store_numbers figure_numbers refl refl refl

  pub from-table : (orders area : List ℕ)
      → after_table (accepted (table_of table)) (state_of table no_bits no_flows) orders area ≡ batch text orders area
  unfolding batch
  from-table orders area = ap₂ (λ (t : TableText) (s : State). after_table t s orders area) filled.same starts

-- A table that was refused.
pub refused-table : (text table orders area : List ℕ) (refusal : Refusal) → TableFilled text (Err refusal) table
    → refused_batch (fault_code refusal.fault) refusal.line area ≡ batch text orders area
unfolding batch after_table
refused-table text table orders area refusal filled = ap (λ (t : TableText). after_table t (opened text) orders area) filled.same

-- What a host in C gets says the same.
pub as-numbers : (r : Result ℕ whole.Refusal) (area : List ℕ) → result_of (result_in r) area ≡ batch_of r area
unfolding refused_batch
as-numbers (Ok count) area = refl
as-numbers (Err (OfTable of_table)) area = refl
as-numbers (Err OrdersTooLong) area = refl
as-numbers (Err AreaTooShort) area = refl
