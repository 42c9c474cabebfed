-- What a consistent registry gives its leaves, and that it is consistent again after a registration.
-- Assumes nothing.
use Rattle.std.specs.Prelude.{Result, Ok, Err}
use Prim.Native.Nat.{ℕ, suc, ◌+◌, ◌≤◌, ◌<◌}
use mathlib.Core.Path.{◌≡◌, refl, sym, ap, subst, ◌∙◌}
use mathlib.Core.Bool.{true, false, ◌&&◌}
use mathlib.Core.List.{List, [], map}
use mathlib.Core.Option.{none, some}
use native.Mathlib.Nat.{le_trans}
use native.Mathlib.Omega.{arith}
use lib.ListN.{length, set, length-map}
use Rattle.model.specs.Words.{All, every, first_index, is_none}
use Rattle.model.specs.Sizes.{queues_most, hops_most, slot_count}
use Rattle.model.specs.Columns.{between}
use Rattle.model.proofs.Laws.Columns.{between-true}
use Rattle.model.proofs.Laws.Test.{and_both}
use Rattle.model.proofs.Laws.All.{all-imp}
use Rattle.model.proofs.Laws.Formula.{growth-most}
use Rattle.model.specs.Orders as line
use Rattle.model.specs.Orders.{Order, register, registering, kind_number, flow_of, head_in_range, hops_in_range, number_in_range}
use Rattle.model.specs.Aggregates as lookup
use Rattle.model.specs.Schedulable.{Named}
use Rattle.model.specs.Reference.{Slot, State, Outcome, held_flows, is_held, first_cause, at_hop, met_earlier, room_findings, findings, refuse, fill, perform, decide, apply}
use Rattle.model.specs.Consistent.{flow_in_range, head_of, table_consistent, consistent}
use Rattle.model.proofs.Laws.Finding.{none-applies}
use Rattle.model.proofs.Laws.Aggregates.{aggregate-perm}
use Rattle.model.proofs.Laws.Slot.{index_below, fill-perm}
use Rattle.model.proofs.Laws.Reference.{slot-free, hops-free}
use Rattle.model.proofs.Laws.Reached.{StateRules, state-rules, rules-state, apply-keeps}
use Rattle.model.proofs.Laws.Schedulable.{schedulable}
use Rattle.model.proofs.Laws.Bounds.{threshold-below, speed-below, figures-bounded}
use Rattle.causes.specs.declared.Cause.{Cause}
use Rattle.causes.specs.View.{cause_of}
use Rattle.queue_table.specs.declared.access.Hop as queues
use Rattle.orders.specs.declared.Flow.{Flow}
use Rattle.units.specs.View.{aggregate_of, AtSource}
use Rattle.orders.specs.View.{fields_of, line_flow}
use Rattle.queue_table.specs.View.{link_in, speed_at, WellFormed, table_of, hop_at, is_queue, link_at, AllQueues}
use Rattle.queue_table.proofs.LookupLaws.{link-found}
use Rattle.bit_words.specs.View.{LeastClear}
use Rattle.flow_store.specs.View.{slots_of, Placeable, Placed}
use Rattle.flow_store.specs.Laws.{length-slots}
use Rattle.flow_store.proofs.ViewLaws.{held-hops}
use Rattle.flow_store.proofs.ScanLaws.{lowest-free}
use Rattle.path_check.proofs.SearchLaws.{path-long}
use Rattle.flow_check.specs.View as judged
use Rattle.figures.specs.View.{Figures, Limited, Hops, Speeds, OnTable, FlowOf, PathAdded, growth_at}
use Rattle.queue_table.proofs.EntryLaws.{queue-within, queue-low, queue-named}
use Rattle.figures.proofs.EntryLaws.{growth-named}
use Rattle.figures.proofs.AddLaws.{figures-added}
use Rattle.admission.specs.View.{state_of, answer_of, LineRead, ConsistentArrays, Stepped}

-- 11: the ranges of a registration that was read.
pub record Ranges (f : line.Flow) : Type 0 where
  pub some-rate : 1 ≤ f.rate
  pub rate : f.rate ≤ 10000000
  pub burst : f.burst ≤ 1000000
  pub frame : f.frame ≤ 1542
  pub deadline : f.deadline ≤ 10000000
  pub few : length f.path ≤ hops_most

pub ranges : (f : line.Flow) → flow_in_range f ≡ true → Ranges f
unfolding flow_in_range head_in_range head_of hops_in_range
ranges f e =
    let (head, hops) = and_both (head_in_range (head_of f)) _ e in
    let (e₁, deadline) = and_both (number_in_range f.number && between 1 10000000 f.rate && between 84 1000000 f.burst && between 84 1542 f.frame) _ head in
    let (e₂, frame) = and_both (number_in_range f.number && between 1 10000000 f.rate && between 84 1000000 f.burst) _ e₁ in
    let (e₃, burst) = and_both (number_in_range f.number && between 1 10000000 f.rate) _ e₂ in
    let (e₄, rate) = and_both (number_in_range f.number) _ e₃ in
    record {
      some-rate = (between-true 1 10000000 f.rate rate).0;
      rate = (between-true 1 10000000 f.rate rate).1;
      burst = (between-true 84 1000000 f.burst burst).1;
      frame = (between-true 84 1542 f.frame frame).1;
      deadline = (between-true 1 10000000 f.deadline deadline).1;
      few = (between-true 1 hops_most (length f.path) hops).1;
    }

-- Queues of a consistent table have thresholds in their range.
pub hops-ranged : (table : List ℕ) → WellFormed table → table_consistent (table_of table) ≡ true
    → (entries : List ℕ) → AllQueues table entries → length entries ≤ hops_most → Hops table entries
unfolding lookup.threshold_of
hops-ranged table formed right entries named few =
    record {
      table-long = formed.long;
      few = few;
      each = all-imp entries each named;
    }
  where
    each : (e : ℕ) → is_queue table e ≡ true → (e < queues_most) × (growth_at table e ≤ 100000)
    each e q = (
      queue-low table e q formed.few,
      rw (sym (growth-named table e q), queue-named table e q)
          (le_trans (growth-most _ _) (threshold-below (table_of table) right (hop_at e) _ (queue-named table e q))),
    )

pub stepped_same : {o o' : Order} {table bits store bits' store' figures' : List ℕ} {r : Result ℕ Cause} → o ≡ o'
    → Stepped o table bits store bits' store' figures' r
    → Stepped o' table bits store bits' store' figures' r
stepped_same {table = table} {bits} {store} {bits'} {store'} {figures'} {r} e =
    subst (λ (o : Order). Stepped o table bits store bits' store' figures' r) e

pub filled : (s : State) (i : ℕ) (x : Slot) → answer_of (Ok (i + 1)) ≡ (fill s i x).answer
unfolding fill
filled s i x =
    let e : i + 1 ≡ suc i = omega arith in
    λ t. record { code = 0; slot = e t; link = 0; level = 0 }

module _ (table bits store figures : List ℕ) (k : ConsistentArrays table bits store figures) where
  abbrev s : State
  s = state_of table bits store

  rules : StateRules s
  rules = state-rules s k.is-consistent

  -- A refusal is the first cause, and nothing changes.
  pub stepped-refused : (o : Order) (cause : Cause) → first_cause (findings s o) ≡ some (cause_of cause)
      → Stepped o table bits store bits store figures (Err cause)
  unfolding apply decide refuse
  stepped-refused o cause first =
      let done : apply s o ≡ refuse s (cause_of cause) = ap (decide s o) first in
      record {
        answer = sym (ap (λ (out : Outcome). out.answer) done);
        next = sym (ap (λ (out : Outcome). out.next) done);
        kept = k;
      }

  pub limited : Limited figures
  limited =
      record {
        long = k.exact.long;
        rates = λ e lt. rw (k.exact.same e lt) (figures-bounded s rules (hop_at e)).0;
        bursts = λ e lt. rw (k.exact.same e lt) (figures-bounded s rules (hop_at e)).1.0;
        frames = λ e lt. rw (k.exact.same e lt) (figures-bounded s rules (hop_at e)).1.1;
      }

  -- The held flows are on queues of the table.
  pub held-named : All (λ g. All (Named (table_of table)) g.path) (held_flows (slots_of bits store))
  held-named = all-imp (held_flows (slots_of bits store)) (λ g m. m.queues) (schedulable s rules).flows

  -- Queues of the table have thresholds and speeds in their ranges.
  module _ (entries : List ℕ) (named : AllQueues table entries) where
    pub hops-within : length entries ≤ hops_most → Hops table entries
    hops-within few = hops-ranged table k.formed rules.table entries named few

    pub speeds-within : Speeds table entries
    unfolding link_at
    speeds-within = record { each = all-imp entries each named }
      where
        each : (e : ℕ) → is_queue table e ≡ true → speed_at table (link_in e) ≤ 10000
        each e q =
            speed-below (table_of table) rules.table (link_in e + 1) _ (link-found table (link_in e) (queue-within table e q).0)

  -- The flow of a line that was read, with nothing against its path.
  module _ (flow : Flow) (hops : List queues.Hop) (path : List ℕ) (read : LineRead flow hops) (named : judged.PathNamed flow hops table path) where
    abbrev f : line.Flow
    f = line_flow flow hops

    pub hops-long : length f.path ≡ flow.hops
    unfolding flow_of
    hops-long = path-long hops flow.hops (omega (arith, read.long, read.few))

    pub path-length : length path ≡ flow.hops
    unfolding flow_of
    path-length = sym (length-map path hop_at) ∙ ap length named.path ∙ hops-long

    range : Ranges f
    range = ranges f read.range

    pub on-table : OnTable table path
    on-table = record { named = named.queues; once = ap (at_hop 16 met_earlier []) named.path ∙ named.once }

    pub flow-of : FlowOf (aggregate_of flow.share) path f
    unfolding flow_of
    flow-of = record { is = refl; path-is = sym named.path }

    pub numbers : AtSource (aggregate_of flow.share)
    unfolding flow_of
    numbers = (range.rate, range.burst, range.frame)

    module _ (room : first_cause (room_findings (slots_of bits store) f) ≡ none) (slot : ℕ) (least : LeastClear bits slot) where
      lowest : slot ≡ first_index is_none (slots_of bits store)
      lowest = lowest-free bits store slot k.stored.bits-long least

      free : every is_held (slots_of bits store) ≡ false
      free = slot-free (slots_of bits store) f (none-applies (room_findings (slots_of bits store) f) room)

      pub inside : slot < slot_count
      unfolding is_held
      inside = omega (arith, lowest, index_below is_none (slots_of bits store) free, length-slots bits store)

      pub placeable : Placeable slot flow path bits store
      unfolding flow_of
      placeable =
          record {
            stored = k.stored;
            narrow = record { share = numbers; deadline = range.deadline };
            inside = inside;
            hops = sym path-length;
            room = omega (arith, path-length, hops-long, held-hops bits store k.stored, hops-free (slots_of bits store) f (none-applies (room_findings (slots_of bits store) f) room));
          }

      -- An admission: the flow is in the lowest free slot, and every figure is right.
      pub stepped-admitted : {bits' store' figures' : List ℕ} → first_cause (findings s (register f)) ≡ none
          → Placed slot flow path bits store bits' store'
          → PathAdded (aggregate_of flow.share) table path figures figures'
          → Stepped (register f) table bits store bits' store' figures' (Ok (slot + 1))
      unfolding apply decide perform fill
      stepped-admitted {bits'} {store'} {figures'} nothing placed added =
          record { answer = answer; next = next; kept = record { formed = k.formed; stored = placed.stored; is-consistent = is-consistent; exact = exact } }
        where
          done : apply s (register f) ≡ fill s (first_index is_none (slots_of bits store)) (some f)
          done = ap (decide s (register f)) nothing

          seen : slots_of bits' store' ≡ set (slots_of bits store) (first_index is_none (slots_of bits store)) (some f)
          seen =
              placed.view
              ∙ ap (λ (i : ℕ). set (slots_of bits store) i (some (flow_of (fields_of flow) (map hop_at path)))) lowest
              ∙ ap (λ (p : List line.Hop). set (slots_of bits store) (first_index is_none (slots_of bits store)) (some (flow_of (fields_of flow) p))) named.path

          answer : answer_of (Ok (slot + 1)) ≡ (apply s (register f)).answer
          answer = ap (λ (i : ℕ). answer_of (Ok (i + 1))) lowest ∙ filled s (first_index is_none (slots_of bits store)) (some f) ∙ sym (ap (λ (out : Outcome). out.answer) done)

          next : state_of table bits' store' ≡ (apply s (register f)).next
          next = ap (λ (l : List Slot). record { table = table_of table; slots = l }) seen ∙ sym (ap (λ (out : Outcome). out.next) done)

          is-consistent : consistent (state_of table bits' store') ≡ true
          is-consistent = rw next (rules-state _ (apply-keeps s (register f) (kind_number registering) (refl, read.range) rules))

          exact : Figures (table_of table) (held_flows (slots_of bits' store')) figures'
          exact =
              let more = figures-added f named.queues flow-of added k.exact in
              record {
                long = more.long;
                same = λ e lt.
                    more.same e lt
                    ∙ sym (aggregate-perm (table_of table) (fill-perm f (slots_of bits store) free) (hop_at e))
                    ∙ ap (λ (l : List Slot). lookup.aggregate_at (table_of table) (held_flows l) (hop_at e)) (sym seen);
              }
