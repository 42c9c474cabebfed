-- W-204 over what the contracts promise: a registry of any content written as order lines, and the text read again, as a batch or line by line by direct calls.
-- That it holds is `writing-listed`, `handed-over` and `whole-admitted` in `HandoverLaws`.
use Rattle.std.specs.Prelude.{ℕ, ◌*◌, ◌≤◌, ◌<◌, ◌≡◌, true, ◌↔◌, length, drop, Result}
use mathlib.Core.List.{List, [], ◌∷◌, ◌++◌, map, Memᴰ}
use Rattle.model.specs.Sizes.{queues_most, answer_bytes, handover_most}
use Rattle.model.specs.Columns.{Line, ended, unended, lines}
use Rattle.model.specs.QueueTable.{Table, accepted, read_table}
use Rattle.model.specs.Orders.{Flow, registering, order_line}
use Rattle.model.specs.Aggregates.{aggregate_at}
use Rattle.model.specs.Reference.{State, Call, held_flows, after_orders, opened}
use Rattle.model.specs.Codes.{writer_codes}
use Rattle.model.specs.AnyOrder.{slots_from, in_turn}
use Rattle.model.specs.Handover.{handover_text, handover_bytes, done_writing}
use Rattle.model.specs.WholeThresholds as before-growth
use Rattle.queue_table.specs.View.{table_of, hop_at}
use Rattle.figures.specs.View.{figure_at}
use Rattle.causes.specs.declared.Cause.{Cause}
use Rattle.admission.specs.View.{answer_of}
use Rattle.batch.specs.declared.BatchResult.{BatchResult}
use Rattle.batch.specs.View.{Batched}
use Rattle.batch.specs.Claim.{AnsweredInTurn}
use Rattle.registry.specs.declared.Registry.{Registry}
use Rattle.registry.specs.declared.Opened.{Opened}
use Rattle.registry.specs.View.{state_in, Consistent, OpensOn, call_of}
use Rattle.registry.specs.Claim.{Chain}
use Rattle.order_text.specs.View.{code_of, bytes_of, written_of, Writes}

-- The flows of a registry, lowest slot first.
abbrev pub flows_in : Registry → List Flow
flows_in r = held_flows (state_in r).slots

-- Mission, line 1: what the writer says of any registry, in any area.
pub record WritingListed (before : Registry) (area area' : List ℕ) (w : Result ℕ Cause) : Type 0 where
  pub code : Memᴰ (code_of w) writer_codes
  -- 42 first, just where the registry isn't consistent; then 43, just where the area is too short, which one of 16,896 bytes never is.
  pub spoilt : (code_of w ≡ 42) ↔ (Consistent before → ⊥)
  pub short : Consistent before → (code_of w ≡ 43) ↔ (length area < handover_bytes (flows_in before))
  pub most : Consistent before → handover_bytes (flows_in before) ≤ handover_most
  -- Refused: 0 bytes, and the area as it was.
  pub unwritten : (code_of w ≡ 0 → ⊥) → (bytes_of w ≡ 0) × (area' ≡ area)
  -- Done: 42 + 6 × hops, summed over the held flows; every byte past them as it was.
  pub written : code_of w ≡ 0 → (bytes_of w ≡ handover_bytes (flows_in before)) × (drop (bytes_of w) area' ≡ drop (bytes_of w) area)

-- Written, the registry gives this text, wherever that has room.
abbrev pub WrittenAs : (text : List ℕ) → Registry → Type 0
WrittenAs text r = (area area' : List ℕ) (w : Result ℕ Cause) → Writes r area area' w → length text ≤ length area → written_of w area' ≡ done_writing text area

-- The state after the last line of a batch over the table text `table`.
abbrev pub after_text : (table text : List ℕ) → State
after_text table text = after_orders (opened table) (map order_line (lines text))

-- A batch over these texts is done, each line admitted, with slots 1, 2, 3, .., in every area that is long enough for the answers.
abbrev pub AdmittedAsBatch : (table text : List ℕ) → Type 0
AdmittedAsBatch table text =
    (area area' : List ℕ) (r : BatchResult) → Batched table text area area' r → answer_bytes * length (lines text) ≤ length area → AnsweredInTurn text area area' r

-- The text as the orders of a batch over the table text `table`.
pub record ReadAsBatch (before : Registry) (text table : List ℕ) : Type 0 where
  pub answered : AdmittedAsBatch table text
  -- After its last line the flows are the same in the same order, and every queue's figures are.
  pub slots : (after_text table text).slots ≡ in_turn (flows_in before)
  pub flows : held_flows (after_text table text).slots ≡ flows_in before
  pub figures : (e : ℕ) → e < queues_most
      → aggregate_at (after_text table text).table (held_flows (after_text table text).slots) (hop_at e) ≡ figure_at before.figures e
  -- A registry that holds just this gives the same text.
  pub again : (r : Registry) → Consistent r → state_in r ≡ after_text table text → WrittenAs text r

-- W-208: the text of flows that were consistent by whole thresholds, over their table.
abbrev pub WholeAdmitted : (table : List ℕ) (t : Table) (fs : List Flow) → Type 0
WholeAdmitted table t fs = read_table table ≡ accepted t → before-growth.flows_consistent t fs ≡ true → AdmittedAsBatch table (handover_text fs)

-- Register calls with the lines of a text, each with its LF.
abbrev pub line_call : Line → Call
line_call (ended line) = call_of registering (line ++ (10 ∷ []))
line_call unended = call_of registering []

abbrev pub line_calls : (text : List ℕ) → List Call
line_calls text = map line_call (lines text)

-- The text given line by line to a registry just opened; `last` is what the calls left.
pub record ReadByCalls (before : Registry) (text : List ℕ) (answers : List (Result ℕ Cause)) (last : Registry) : Type 0 where
  pub answered : map answer_of answers ≡ slots_from 1 (length (lines text))
  pub slots : (state_in last).slots ≡ in_turn (flows_in before)
  pub flows : flows_in last ≡ flows_in before
  pub figures : (e : ℕ) → e < queues_most → figure_at last.figures e ≡ figure_at before.figures e
  pub again : WrittenAs text last

-- What a text that was written from a registry does, over every table text that reads as the registry's table.
pub record HandedOver (before : Registry) (text : List ℕ) : Type 0 where
  pub batch : (table : List ℕ) → read_table table ≡ accepted (table_of before.table) → ReadAsBatch before text table
  pub calls : (table : List ℕ) → read_table table ≡ accepted (table_of before.table) → (o : Opened) → OpensOn table o
      → (answers : List (Result ℕ Cause)) (last : Registry) → Chain o.registry (line_calls text) answers last
      → ReadByCalls before text answers last
