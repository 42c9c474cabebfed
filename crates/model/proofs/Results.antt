-- The headline facts in a page: what one call on the reference model (document 01: the plain book) does, when a registration and a change are admitted, when room lacks, that no frame is late or lost and every one arrives,
-- that the order of registrations that are all admitted doesn't matter, that nothing admitted by whole thresholds is lost, that held flows written as order lines are all admitted again,
-- and that sources behind gates conform, so that no frame is late behind gates, and which frames a gate lets pass.
-- Each is a fact of another file, said again in the paper's terms. Assumes nothing.
use Rattle.std.specs.Prelude.{ℕ, ◌+◌, ◌*◌, ◌%◌, ◌≤◌, min, ◌≡◌, refl, true, ◌↔◌, List, [], ◌∷◌, ◌++◌, map, length, get_or}
use Rattle.std.proofs.Common.{ap, sym, subst, ◌∙◌}
use Rattle.std.proofs.Math.Option.{none, some, some-injective}
use Rattle.std.proofs.Math.ListN.{get_elem?}
use Rattle.model.specs.Words.{All}
use Rattle.model.specs.Sizes.{handover_most}
use Rattle.model.specs.Columns.{Line}
use Rattle.model.specs.Formula.{ceil_div}
use Rattle.model.specs.QueueTable.{Queue, Table, TableText, accepted, read_table}
use Rattle.model.specs.Orders.{Hop, Flow, Change, Order, register, release, change, change_in_range, registering, changing, kind_number, order_line}
use Rattle.model.specs.Aggregates.{queue_at}
use Rattle.model.specs.Run.{Frame, Sends, Run, Conforming}
use Rattle.model.specs.Punctual.{Punctual}
use Rattle.model.specs.Timely.{Timely}
use Rattle.model.specs.Gate.{Gate, turn, tokens_of, full_of, gate_in_range, tokens_at, open_gate}
use Rattle.model.specs.Offers.{Offer, reading_at, NotBack, answer_to, offer_codes, after_offers, passed, stored, NotRefused, last_time, WithinTurns, behind_gate, BehindGates}
use Rattle.model.proofs.Laws.Run.Punctual.{punctual}
use Rattle.model.proofs.Laws.Run.Delivery.{in-time, none-lost, arrives}
use Rattle.model.specs.Reference.{State, Call, held_flows, changed, call_order, apply, step, table_of, opened, order_answers, final}
use Rattle.model.specs.Codes.{Listed, TextListed, BatchListed}
use Rattle.model.specs.Batch.{line_answers, batch}
use Rattle.model.specs.Consistent.{flow_in_range, flows_consistent, consistent}
use Rattle.model.specs.Part.{Part}
use Rattle.model.specs.AnyOrder.{AdmittedWhole, AnyOrder}
use Rattle.model.specs.Handover.{flow_line, handover_text, handover_bytes, HandsOver}
use Rattle.model.specs.Outcomes.{NoneApplies, with_slot, Decided, early_findings, NoRoom, Full}
use Rattle.model.specs.WholeThresholds as before
use Rattle.model.proofs.Laws.Reference.{registered-zero}
use Rattle.model.proofs.Laws.Order.{call-readable, line-readable, ranged}
use Rattle.model.proofs.Laws.Consistent.{FlowsRules, flows-rules, rules-flows, flows-part}
use Rattle.model.proofs.Laws.Reached.{StateRules, state-rules, rules-state, one-slot, registered-again, changed-ranged, released-from, apply-keeps, reached}
use Rattle.model.proofs.Laws.AnyOrder.{registered-exactly, in-any-order}
use Rattle.model.proofs.Laws.Handover.{text-long, bytes_most, hands-over, calls-read}
use Rattle.model.proofs.Laws.WholeThresholds.{flows-less, order_same, lines_same}
use Rattle.model.proofs.Laws.Schedulable.{schedulable}
use Rattle.model.proofs.Laws.Decided.{decided, listed}
use Rattle.model.proofs.Laws.Codes.{read-listed, returned-listed}
use Rattle.model.proofs.Laws.Room.{room}
use Rattle.model.proofs.Laws.All.{all-imp}
use Rattle.model.proofs.Laws.Gate.{tokens-seen, flow-opens}
use Rattle.model.proofs.Laws.Offers.{one-conforms, behind-sends, all-conform}
use Rattle.model.proofs.Laws.Passing.{opened-first, opened-again, passes-since, range-after}

-- Every part of a consistent set of flows is consistent, in any order.
pub part-consistent : (t : Table) {part flows : List Flow} → Part part flows → flows_consistent t flows ≡ true → flows_consistent t part ≡ true
part-consistent t {part} {flows} p e = rules-flows t part (flows-part t p (flows-rules t flows e))

-- A consistent state, whether calls led to it or not.
module _ (s : State) (ok : consistent s ≡ true) where
  rules : StateRules s
  rules = state-rules s ok

  -- Every call and every order line keep it consistent.
  pub step-consistent : (c : Call) → consistent (step s c).next ≡ true
  unfolding step
  step-consistent c =
      rules-state (step s c).next (apply-keeps s (call_order c) (kind_number c.kind) (call-readable c) rules)

  pub line-consistent : (l : Line) → consistent (apply s (order_line l)).next ≡ true
  line-consistent l =
      let (kind, r) = line-readable l in
      rules-state (apply s (order_line l)).next (apply-keeps s (order_line l) kind r rules)

  -- Mission, line 2: every call and every order line is decided as document 01 has it, line 1: and its answer is one that document 01 lists.
  pub call-decided : (c : Call) → Decided s (call_order c) (step s c)
  unfolding step
  call-decided c = decided s rules (call_order c) (kind_number c.kind) (call-readable c)

  pub call-listed : (c : Call) → Listed s (call_order c) (step s c).answer
  unfolding step
  call-listed c = listed s rules (call_order c) (kind_number c.kind) (call-readable c)

  pub line-decided : (l : Line) → Decided s (order_line l) (apply s (order_line l))
  line-decided l = let (kind, r) = line-readable l in decided s rules (order_line l) kind r

  pub line-listed : (l : Line) → Listed s (order_line l) (apply s (order_line l)).answer
  line-listed l = let (kind, r) = line-readable l in listed s rules (order_line l) kind r

  -- No frame is late, in a queue or end to end, none is lost, and every one arrives, in every run over the held flows.
  pub no-frame-late : Timely s.table (held_flows s.slots)
  no-frame-late =
      let t = s.table in
      let fs = held_flows s.slots in
      let meets = schedulable s rules in
      record { punctual = punctual t fs meets; in_time = in-time t fs meets; none_lost = none-lost t fs meets; arrives = arrives t fs meets }

  -- A registration with no cause before 30 lacks room exactly when every slot is held or the held hops and its own exceed the hop entries.
  pub room-exactly : (c : Call) (f : Flow) → call_order c ≡ register f → NoneApplies (early_findings s f)
      → NoRoom (step s c).answer.code ↔ Full s f
  unfolding step
  room-exactly c f e m = rw e (room s f rules.size m)

  -- W-206, of a change that was read and whose flow is held.
  module _ (c : Change) (range : change_in_range c ≡ true) (i : ℕ) (f : Flow) (held : get_or s.slots i none ≡ some f) (own : f.number ≡ c.number) where
    -- It is admitted exactly when the held flows, with this one so changed, are consistent; 17 is among what that asks.
    pub change-exactly : ((apply s (change c)).answer.code ≡ 0) ↔ (consistent (with_slot s i (some (changed c f))) ≡ true)
    change-exactly =
        let (to, from) = (decided s rules (change c) (kind_number changing) (refl, range)).changed c refl in (
          λ z.
              let m = to z in
              let same : m.index ≡ i = one-slot s rules c.number m.index m.held m.number ∙ sym (one-slot s rules c.number i held own) in
              let flow : m.flow ≡ f = some-injective _ _ (sym m.held ∙ ap (λ i. get_or s.slots i none) same ∙ held) in
              subst (λ (f : Flow). consistent (with_slot s i (some (changed c f))) ≡ true) flow (subst (λ i. consistent (with_slot s i (some (changed c m.flow))) ≡ true) same m.meets),
          λ meets. from (record { index = i; flow = f; held = held; number = own; meets = meets }),
        )

    -- So just when the flow, released and registered again as changed with nothing in between, would be.
    pub change-as-registered : ((apply s (change c)).answer.code ≡ 0) ↔ ((apply (apply s (release c.number)).next (register (changed c f))).answer.code ≡ 0)
    change-as-registered =
        rw (released-from s rules c.number i held own)
        (let (to, from) = change-exactly in
        let (meets, again) = registered-again s c range rules i held in
        let (rules-of, zero) = registered-zero (with_slot s i none) (changed c f) (changed-ranged s c range rules i held) in
        (λ z. zero (again (to z)), λ z. from (meets (rules-of z))))

-- The state after any list of calls on any table text is consistent.
pub reached-consistent : (text : List ℕ) (calls : List Call) → consistent (final (opened text) calls) ≡ true
reached-consistent text calls = rules-state (final (opened text) calls) (reached text calls)

-- After any list of calls on any table text no frame is late.
pub reached-timely : (text : List ℕ) (calls : List Call) → let s = final (opened text) calls in Timely s.table (held_flows s.slots)
reached-timely text calls = no-frame-late (final (opened text) calls) (reached-consistent text calls)

-- W-205. From an empty registry, on any table text, registrations are all admitted exactly when their flows are consistent, which by `part-consistent` doesn't depend on
-- their order.
pub admitted-exactly : (text : List ℕ) (fs : List Flow) → All (λ f. flow_in_range f ≡ true) fs
    → All (λ a. a.code ≡ 0) (order_answers (opened text) (map register fs)) ↔ (flows_consistent (opened text).table fs ≡ true)
admitted-exactly text fs range =
    let (consistent, admitted) = registered-exactly text fs range in
    (λ z. rules-flows (opened text).table fs (consistent z), λ e. admitted (flows-rules (opened text).table fs e))

-- So where calls are registrations and all are admitted, every part of them is admitted in any order, and every order of them all leaves the same flows and figures;
-- only the slots go by the order, 1, 2, 3, .. as they come. The same of the lines of a batch.
-- This is not so where not all are admitted (`worked-batches`, its fourth part): of 301 and 302 in the example hall the one that comes first keeps the
-- other out, and a film keeps out two cameras that get in before it.
pub any_order : (text : List ℕ) (calls : List Call) → AdmittedWhole call_order (opened text) calls → AnyOrder call_order (opened text) calls
any_order text = in-any-order text call_order (λ c. ranged (kind_number c.kind) (call_order c) (call-readable c))

pub any-order-lines : (text : List ℕ) (ls : List Line) → AdmittedWhole order_line (opened text) ls → AnyOrder order_line (opened text) ls
any-order-lines text = in-any-order text order_line (λ l. let (kind, r) = line-readable l in ranged kind (order_line l) r)

-- Nothing admitted by whole thresholds, before W-208, is lost: a set of flows that was consistent by them is consistent.
pub whole-consistent : (t : Table) (fs : List Flow) → before.flows_consistent t fs ≡ true → flows_consistent t fs ≡ true
whole-consistent = flows-less

-- An order that was carried out by them is carried out just the same, on any state: the same answer, slot and next state.
pub whole-order : (s : State) (o : Order) → (before.apply s o).answer.code ≡ 0 → apply s o ≡ before.apply s o
whole-order = order_same

-- Order lines that were all carried out by them, one after the other, are answered just the same.
pub whole-lines : (s : State) (ls : List Line) → All (λ a. a.code ≡ 0) (before.line_answers s ls) → line_answers s ls ≡ before.line_answers s ls
whole-lines = lines_same

-- W-204. Flows that are consistent on the table of a text, written as order lines: read as a batch's orders over it, all of them are admitted, and the same flows
-- stand in slots 1, 2, 3, ..
pub handover : (table : List ℕ) (fs : List Flow) → flows_consistent (opened table).table fs ≡ true → HandsOver table fs
handover table fs e = hands-over table fs (flows-rules (opened table).table fs e)

-- So it is with the flows of every consistent state, whether calls led to it or not, over every table text that reads as its table.
pub handover-state : (s : State) → consistent s ≡ true → (table : List ℕ) → read_table table ≡ accepted s.table → HandsOver table (held_flows s.slots)
unfolding opened table_of
handover-state s ok table e =
    let fs = held_flows s.slots in
    hands-over table fs (subst (λ (t : TableText). FlowsRules (table_of t) fs) (sym e) (state-rules s ok).flows)

-- The text has 42 + 6 × hops bytes, summed over the flows, and never more than room allows.
pub handover-bytes : (fs : List Flow) → length (handover_text fs) ≡ handover_bytes fs
handover-bytes = text-long

pub handover-most : (s : State) → consistent s ≡ true → handover_bytes (held_flows s.slots) ≤ handover_most
handover-most s ok = bytes_most s.table (held_flows s.slots) (state-rules s ok).flows

-- And with flows that were consistent by whole thresholds, before W-208.
pub handover-whole : (table : List ℕ) (fs : List Flow) → before.flows_consistent (opened table).table fs ≡ true → HandsOver table fs
handover-whole table fs e = handover table fs (whole-consistent (opened table).table fs e)

-- A direct call with one line of the text registers its flow.
pub handover-call : (table : List ℕ) (fs : List Flow) → flows_consistent (opened table).table fs ≡ true
    → All (λ f. call_order (record { kind = registering; bytes = flow_line f }) ≡ register f) fs
handover-call table fs e = calls-read table fs (flows-rules (opened table).table fs e)

-- W-207. What passes a gate conforms to the registered bucket over every window, whatever is offered, from one opening on.
pub gate-conforms : (f : Flow) (opened start : ℕ) (os : List Offer) → NotBack opened os → Conforming (f ∷ []) (behind_gate 0 f opened start os)
gate-conforms = one-conforms

-- It has 84 bytes to the flow's largest.
pub gate-sends : (fs : List Flow) (j : ℕ) (f : Flow) → get_elem? fs j ≡ some f → (opened start : ℕ) (os : List Offer) (x : ℕ)
    → All (Sends fs x) (behind_gate j f opened start os x)
gate-sends = behind-sends

-- So sources behind gates meet the theorem's hypothesis, and no frame is late behind gates.
pub gates-conform : (fs : List Flow) (sent : ℕ → List Frame) → BehindGates fs sent → Conforming fs sent
gates-conform = all-conform

pub no-frame-late-behind-gates : (s : State) → consistent s ≡ true → (r : Run s.table (held_flows s.slots)) → BehindGates (held_flows s.slots) r.sent
    → (x : ℕ) (h : Hop) (q : Queue) → queue_at s.table h ≡ some q → Punctual s.table (held_flows s.slots) r x h q
no-frame-late-behind-gates s ok r b = (no-frame-late s ok).punctual r (gates-conform (held_flows s.slots) r.sent b)

-- The gate of a held flow is opened, never refused.
pub gate-opens : (s : State) → consistent s ≡ true → All (λ f. (now : ℕ) → (open_gate f.rate f.burst f.frame now).code ≡ 0) (held_flows s.slots)
gate-opens s ok = all-imp (held_flows s.slots) (flow-opens s.table (held_flows s.slots)) (state-rules s ok).flows.flows

-- Time that passed by whole turns unseen adds no tokens; less than one turn is seen exactly.
pub gate-unseen : (g : Gate) (last d : ℕ) → g.reading ≡ reading_at last → tokens_at g (reading_at (last + d)) ≡ min (full_of g) (g.tokens + g.rate * (d % turn))
gate-unseen = tokens-seen

-- Before any frame has passed, one that isn't refused passes.
pub gate-passes-first : (rate burst frame now : ℕ) (os : List Offer) (o : Offer) → let g = (open_gate rate burst frame now).gate in
    last_time (passed os (offer_codes g os)) ≡ none → NotRefused (answer_to (after_offers g os) o).code → (answer_to (after_offers g os) o).code ≡ 0
gate-passes-first = opened-first

-- Its numbers stay in range, so tokens are never above full, and 61 never comes.
pub gate-keeps : (g : Gate) (os : List Offer) → gate_in_range g ≡ true → gate_in_range (after_offers g os) ≡ true
gate-keeps = range-after

-- Where stored readings are less than one turn apart, one that isn't refused passes ceil(8000 × n / rate) µs or more after the last that passed, drops in between or not.
pub gate-passes-again : (rate burst frame opened : ℕ) (os : List Offer) (o : Offer) → let g = (open_gate rate burst frame (reading_at opened)).gate in
    let all = os ++ (o ∷ []) in
    NotBack opened all → WithinTurns opened (stored all (offer_codes g all)) → NotRefused (answer_to (after_offers g os) o).code
    → (p : ℕ) → last_time (passed os (offer_codes g os)) ≡ some p → p + ceil_div (tokens_of o.length) rate ≤ o.time
    → (answer_to (after_offers g os) o).code ≡ 0
gate-passes-again = opened-again

-- Only the readings since that frame count: the same of any gate in range that stored the reading of a frame at p, none having passed since.
pub gate-passes-since : (g : Gate) (p : ℕ) (os : List Offer) (o : Offer) → gate_in_range g ≡ true → g.reading ≡ reading_at p → let all = os ++ (o ∷ []) in
    NotBack p all → WithinTurns p (stored all (offer_codes g all)) → NotRefused (answer_to (after_offers g os) o).code
    → last_time (passed os (offer_codes g os)) ≡ none
    → p + ceil_div (tokens_of o.length) g.rate ≤ o.time
    → (answer_to (after_offers g os) o).code ≡ 0
gate-passes-since = passes-since

-- Mission, line 1: what a table text is refused for, what a batch returns, and that a refused one writes nothing.
pub text-listed : (text : List ℕ) → TextListed text (read_table text)
text-listed = read-listed

pub batch-listed : (table orders area : List ℕ) → let b = batch table orders area in
    BatchListed table orders b.code b.line × ((b.code ≡ 0 → ⊥) → b.area ≡ area)
batch-listed = returned-listed
