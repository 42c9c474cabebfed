-- What W-204 promises holds: the model says it of the flows of every consistent state (`handover-state`), and the contracts tie text, batch and calls to it.
-- Assumes nothing.
use Rattle.std.specs.Prelude.{ℕ, ◌*◌, ◌≤◌, ◌<◌, ◌≡◌, Bool, true, false, take, ltb, Result}
use Rattle.std.proofs.Math.Path.{refl, ap, ap₂, sym}
use Rattle.std.proofs.Common.{subst, ◌∙◌, arith, take_at, drop_at}
use mathlib.Core.List.Memᴰ
use mathlib.Core.List.{List, [], ◌∷◌, ◌++◌, map}
use Rattle.std.proofs.Math.ListN.{length, drop}
use Rattle.std.proofs.lemmas.List.{length-map}
use borrow.Author.Tests.{ltb-true, ltb-false}
use Rattle.model.specs.Words.{All}
use Rattle.model.specs.Sizes.{queues_most, answer_bytes, order_bytes, order_lines}
use Rattle.model.specs.Columns.{Line, ended, lines}
use Rattle.model.specs.QueueTable.{Table, TableText, accepted, read_table}
use Rattle.model.specs.Orders.{Flow, Order, register, registering, order_line}
use Rattle.model.specs.Aggregates.{aggregate_at}
use Rattle.model.specs.Reference as model
use Rattle.model.specs.Reference.{State, held_flows, call_order, order_answers, after_orders, opened, final}
use Rattle.model.specs.Consistent.{flows_consistent}
use Rattle.model.specs.WholeThresholds as before-growth
use Rattle.model.specs.Batch.{Batch, line_answers, answer_text, done_batch, too_long}
use Rattle.model.specs.AnyOrder.{slots_from, in_turn}
use Rattle.model.specs.Handover.{flow_columns, flow_line, handover_text, Writing, refused_writing, done_writing, writing, HandsOver}
use Rattle.model.proofs.Laws.Test.{or-neither}
use Rattle.model.proofs.Laws.Consistent.{rules-flows}
use Rattle.model.proofs.Laws.Reached.{state-rules}
use Rattle.model.proofs.Laws.Batch.{Fits, fits-done}
use Rattle.model.proofs.Laws.Handover.{text-long, text-lines, writing-short, writing-done}
use Rattle.model.proofs.Results.{handover-state, handover-most, handover-whole, handover-call}
use Rattle.queue_table.specs.View.{table_of, hop_at}
use Rattle.figures.specs.View.{figure_at}
use Rattle.causes.specs.declared.Cause.{Cause}
use Rattle.batch.specs.declared.BatchResult.{BatchResult}
use Rattle.batch.specs.View.{Batched}
use Rattle.batch.specs.Claim.{AnsweredInTurn}
use Rattle.registry.specs.declared.Registry.{Registry}
use Rattle.registry.specs.declared.Opened.{Opened}
use Rattle.registry.specs.View.{state_in, Consistent, OpensOn}
use Rattle.registry.specs.Claim.{Chain}
use Rattle.registry.specs.ClaimLaws.{claim}
use Rattle.order_text.specs.View.{code_of, bytes_of, written_of, Writes, consistent, inconsistent}
use Rattle.promises.specs.Handover.{flows_in, WritingListed, WrittenAs, after_text, ReadAsBatch, WholeAdmitted, line_call, line_calls, ReadByCalls, HandedOver}

counted : (fs : List Flow) → length (lines (handover_text fs)) ≡ length fs
counted fs = ap length (text-lines fs) ∙ length-map fs (λ f. ended (flow_columns f))

-- A batch over a text that hands flows over.
module _ {table : List ℕ} {t : Table} {fs : List Flow} (read : read_table table ≡ accepted t) (over : HandsOver table fs) where
  abbrev text : List ℕ
  text = handover_text fs

  in-turn : (area area' : List ℕ) (r : BatchResult) → Batched table text area area' r → answer_bytes * length (lines text) ≤ length area → AnsweredInTurn text area area' r
  unfolding done_batch too_long
  in-turn area area' r batched room =
      let (bytes, few) = or-neither (ltb order_bytes (length text)) (ltb order_lines (length (lines text))) over.fits in
      let fits : Fits text area = record { bytes = ltb-false _ _ bytes; few = ltb-false _ _ few; room = room } in
      let done = batched ∙ fits-done table text area read fits in
      let answers = over.answers ∙ ap (slots_from 1) (sym (counted fs)) in
      record {
        code = ap (λ (b : Batch). b.code) done;
        count = ap (λ (b : Batch). b.line) done;
        written = ap (λ (b : Batch). b.area) done ∙ ap (λ (l : List model.Answer). answer_text 1 l ++ drop (answer_bytes * length (lines text)) area) answers;
      }

-- W-208: so is the text of flows that were consistent by whole thresholds.
pub whole-admitted : (table : List ℕ) (t : Table) (fs : List Flow) → WholeAdmitted table t fs
unfolding opened model.table_of
whole-admitted table t fs read e =
    in-turn read (handover-whole table fs (subst (λ (x : TableText). before-growth.flows_consistent (model.table_of x) fs ≡ true) (sym read) e))

-- The text of a consistent registry.
module _ (before : Registry) (kept : Consistent before) where
  abbrev held : List Flow
  held = flows_in before

  -- Over a table text that reads as the registry's table.
  module _ (table : List ℕ) (read : read_table table ≡ accepted (table_of before.table)) where
    over : HandsOver table held
    over = handover-state (state_in before) kept.is-consistent table read

    -- The flows on that table in turn are the same, and so are the figures.
    module _ (s : State) (left : s ≡ record { table = (opened table).table; slots = in_turn held }) where
      turned : s.slots ≡ in_turn held
      turned = ap (λ (s : State). s.slots) left

      same-flows : held_flows s.slots ≡ held
      same-flows = ap held_flows (turned ∙ sym (ap (λ (s : State). s.slots) over.left)) ∙ over.flows

      same-figures : (e : ℕ) → e < queues_most → aggregate_at s.table (held_flows s.slots) (hop_at e) ≡ figure_at before.figures e
      unfolding opened model.table_of
      same-figures e h =
          ap₂ (λ (t : Table) (fs : List Flow). aggregate_at t fs (hop_at e)) (ap (λ (s : State). s.table) left ∙ ap model.table_of read) same-flows
          ∙ sym (kept.exact.same e h)

    written-again : (r : Registry) → Consistent r → flows_in r ≡ held → WrittenAs (handover_text held) r
    written-again r ok same area area' w (consistent kept e) room =
        e ∙ ap (λ (fs : List Flow). writing (handover_text fs) area) same ∙ writing-done (handover_text held) area room
    written-again r ok same area area' w (inconsistent spoilt e) room = absurd (spoilt ok)

    as-batch : ReadAsBatch before (handover_text held) table
    as-batch =
        let s = after_text table (handover_text held) in
        record {
          answered = in-turn read over;
          slots = turned s over.left;
          flows = same-flows s over.left;
          figures = same-figures s over.left;
          again = λ r ok same. written-again r ok (ap (λ (s : State). held_flows s.slots) same ∙ same-flows s over.left);
        }

    -- Its lines give the same orders to direct calls.
    same-orders : map call_order (line_calls (handover_text held)) ≡ map order_line (lines (handover_text held))
    unfolding opened model.table_of flow_line
    same-orders =
        ap (λ (ls : List Line). map call_order (map line_call ls)) (text-lines held)
        ∙ each held (handover-call table held (subst (λ (x : TableText). flows_consistent (model.table_of x) held ≡ true) (sym read) (rules-flows (table_of before.table) held (state-rules (state_in before) kept.is-consistent).flows)))
        ∙ sym over.read
      where
        each : (fs : List Flow) → All (λ f. call_order (record { kind = registering; bytes = flow_line f }) ≡ register f) fs
            → map call_order (map line_call (map (λ f. ended (flow_columns f)) fs)) ≡ map register fs
        each [] a = refl
        each (f ∷ fs) a = ap₂ (λ (o : Order) (os : List Order). o ∷ os) a.0 (each fs a.1)

    by-calls : (o : Opened) → OpensOn table o → (answers : List (Result ℕ Cause)) (last : Registry) → Chain o.registry (line_calls (handover_text held)) answers last
        → ReadByCalls before (handover_text held) answers last
    unfolding model.answers final line_answers
    by-calls o opens answers last chain =
        let text = handover_text held in
        let claimed = claim table o opens (line_calls text) answers last chain in
        let left = claimed.state ∙ ap (after_orders (opened table)) same-orders ∙ over.left in
        record {
          answered = claimed.answered ∙ ap (order_answers (opened table)) same-orders ∙ over.answers ∙ ap (slots_from 1) (sym (counted held));
          slots = turned (state_in last) left;
          flows = same-flows (state_in last) left;
          figures = λ e h. claimed.is-consistent.exact.same e h ∙ same-figures (state_in last) left e h;
          again = written-again last claimed.is-consistent (same-flows (state_in last) left);
        }

-- What the writer of a text says, by whether the area has room for it.
data Judged (text area : List ℕ) (m : Writing) : Type 0 where
  short : length area < length text → m ≡ refused_writing 43 area → Judged text area m
  done : length text ≤ length area → m ≡ done_writing text area → Judged text area m

judged : (text area : List ℕ) (m : Writing) → m ≡ writing text area → Judged text area m
judged text area m e = go (ltb (length area) (length text)) refl
  where
    go : (b : Bool) → ltb (length area) (length text) ≡ b → Judged text area m
    go true q = short (ltb-true _ _ q) (e ∙ writing-short text area (ltb-true _ _ q))
    go false q = done (ltb-false _ _ q) (e ∙ writing-done text area (ltb-false _ _ q))

pub writing-listed : (before : Registry) (area area' : List ℕ) (w : Result ℕ Cause) → Writes before area area' w → WritingListed before area area' w
unfolding refused_writing done_writing
writing-listed before area area' w (inconsistent spoilt e) =
    let code : code_of w ≡ 42 = ap (λ (m : Writing). m.code) e in
    record {
      code = Memᴰ.tail (Memᴰ.head code);
      spoilt = (λ z. spoilt, λ z. code);
      short = λ kept. absurd (spoilt kept);
      most = λ kept. handover-most (state_in before) kept.is-consistent;
      unwritten = λ z. (ap (λ (m : Writing). m.bytes) e, ap (λ (m : Writing). m.area) e);
      written = λ z. absurd (omega (arith, code, z));
    }
writing-listed before area area' w (consistent kept e) = go (judged (handover_text (flows_in before)) area (written_of w area') e)
  where
    go : Judged (handover_text (flows_in before)) area (written_of w area') → WritingListed before area area' w
    go (short few e) =
        let code : code_of w ≡ 43 = ap (λ (m : Writing). m.code) e in
        record {
          code = Memᴰ.tail (Memᴰ.tail (Memᴰ.head code));
          spoilt = (λ z. absurd (omega (arith, code, z)), λ spoilt. absurd (spoilt kept));
          short = λ kept. (λ z. omega (arith, few, text-long (flows_in before)), λ z. code);
          most = λ kept. handover-most (state_in before) kept.is-consistent;
          unwritten = λ z. (ap (λ (m : Writing). m.bytes) e, ap (λ (m : Writing). m.area) e);
          written = λ z. absurd (omega (arith, code, z));
        }
    go (done room e) =
        let text = handover_text (flows_in before) in
        let code : code_of w ≡ 0 = ap (λ (m : Writing). m.code) e in
        let bytes : bytes_of w ≡ length text = ap (λ (m : Writing). m.bytes) e in
        record {
          code = Memᴰ.head code;
          spoilt = (λ z. absurd (omega (arith, code, z)), λ spoilt. absurd (spoilt kept));
          short = λ kept. (λ z. absurd (omega (arith, code, z)), λ few. absurd (omega (arith, few, room, text-long (flows_in before))));
          most = λ kept. handover-most (state_in before) kept.is-consistent;
          unwritten = λ z. absurd (z code);
          written = λ z. (bytes ∙ text-long (flows_in before), ap₂ drop bytes (ap (λ (m : Writing). m.area) e) ∙ drop_at text (drop (length text) area) (length text) refl ∙ ap (λ n. drop n area) (sym bytes));
        }

pub handed-over : (before : Registry) (area area' : List ℕ) (w : Result ℕ Cause) → Writes before area area' w → code_of w ≡ 0
    → HandedOver before (take (bytes_of w) area')
unfolding refused_writing done_writing
handed-over before area area' w (inconsistent spoilt e) z = absurd (omega (arith, ap (λ (m : Writing). m.code) e, z))
handed-over before area area' w (consistent kept e) z = go (judged (handover_text (flows_in before)) area (written_of w area') e)
  where
    go : Judged (handover_text (flows_in before)) area (written_of w area') → HandedOver before (take (bytes_of w) area')
    go (short few e) = absurd (omega (arith, ap (λ (m : Writing). m.code) e, z))
    go (done room e) =
        let text = handover_text (flows_in before) in
        let same : take (bytes_of w) area' ≡ text = ap₂ take (ap (λ (m : Writing). m.bytes) e) (ap (λ (m : Writing). m.area) e) ∙ take_at text (drop (length text) area) (length text) refl in
        subst (HandedOver before) (sym same) (record { batch = as-batch before kept; calls = by-calls before kept })
