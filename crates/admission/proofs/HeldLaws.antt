-- Held flows that are each right by themselves can be recounted.
-- Assumes nothing.
use Prim.Native.Nat.{ℕ, ◌≤◌, ◌<◌}
use mathlib.Core.Path.{◌≡◌, ap}
use mathlib.Core.Bool.{true, ◌&&◌}
use mathlib.Core.List.{List, [], ◌∷◌, ◌++◌}
use mathlib.Core.Option.{none}
use native.Mathlib.Omega.{arith}
use lib.Dec.{leb}
use borrow.Author.Tests.{le-leb}
use Rattle.model.specs.Words.{every, is_none}
use Rattle.model.proofs.Laws.Slot.{held_at}
use Rattle.model.specs.Sizes.{hops_most, slot_count}
use Rattle.model.specs.QueueTable.{Table}
use Rattle.model.specs.Orders.{Flow}
use Rattle.model.specs.Reference.{State, held_flows, with_number, at_hop, no_queue, line_findings, deadline_finding}
use Rattle.model.specs.Consistent.{flow_in_range, table_consistent}
use Rattle.model.proofs.Laws.Test.{and_both, both-and, every-all, all-every}
use Rattle.model.proofs.Laws.All.{all_append, all-imp}
use Rattle.model.proofs.Laws.Finding.{none-applies, applies-none, is-none}
use Rattle.model.proofs.Laws.Consistent.{FlowRules}
use Rattle.model.proofs.Laws.Reached.{StateRules}
use Rattle.queue_table.specs.View.{WellFormed, table_of}
use Rattle.path_check.proofs.EntryLaws.{all-queues}
use Rattle.bit_words.specs.View.{is_set}
use Rattle.flow_store.specs.View.{PackedStore, slots_of, hops_at, flow_at, entries_in, flow_in}
use Rattle.flow_store.specs.Laws.{held-slot}
use Rattle.flow_store.proofs.ViewLaws.{path_inside, readable, entries-long, flow-long}
use Rattle.flow_check.specs.View.{flow_alone}
use Rattle.recount.specs.View.{Countable, OnQueues}
use Rattle.admission.proofs.ConsistentLaws.{Ranges, ranges, hops-ranged}

module _ (table bits store : List ℕ) (formed : WellFormed table) (stored : PackedStore bits store)
    (right : table_consistent (table_of table) ≡ true)
    (alone : every (flow_alone (table_of table) (held_flows (slots_of bits store))) (held_flows (slots_of bits store)) ≡ true) where
  abbrev t : Table
  t = table_of table

  abbrev flow : ℕ → Flow
  flow i = flow_in store i

  pub by_itself : (i : ℕ) → i < slot_count → is_set bits i ≡ true → (flow_in_range (flow i) ≡ true) × (at_hop 14 (no_queue t) [] (flow i).path ≡ none)
  unfolding flow_alone line_findings
  by_itself i lt held =
      let found = held-slot bits store i lt held in
      let e = held_at (λ (f : Flow). flow_alone t (held_flows (slots_of bits store)) f ≡ true) (slots_of bits store) i (every-all (flow_alone t (held_flows (slots_of bits store))) (held_flows (slots_of bits store)) alone) found in
      let (e₁, causes) = and_both (flow_in_range (flow i) && leb (with_number (flow i).number (held_flows (slots_of bits store))) 1) _ e in
      let (range, number) = and_both (flow_in_range (flow i)) _ e₁ in
      let passed = none-applies (line_findings t (flow i) ++ deadline_finding t (flow i) ∷ []) (is-none _ causes) in
      (range, passed.1.0)

  pub on-queues : OnQueues table bits store
  unfolding flow_at is_none
  on-queues i lt held = all-queues table (entries_in store i) (ap is_none (by_itself i lt held).1)

  pub countable : Countable table bits store
  unfolding flow_at
  countable =
      record {
        stored = readable bits store stored;
        each = λ i lt held.
            let range : Ranges (flow i) = ranges (flow i) (by_itself i lt held).0 in
            let inside = path_inside bits store stored.packed i lt held in
            let few : hops_at store i ≤ hops_most = omega (arith, range.few, flow-long store stored.store_long i inside) in
            record {
              few = few;
              share = (range.rate, range.burst, range.frame);
              hops = hops-ranged table formed right (entries_in store i) (on-queues i lt held) (omega (arith, few, entries-long store stored.store_long i inside));
            };
      }

rules-alone : (t : Table) (fs : List Flow) (f : Flow) → FlowRules t fs f → flow_alone t fs f ≡ true
unfolding flow_alone is_none
rules-alone t fs f r =
    both-and (both-and r.range (le-leb _ _ r.number))
    (rw (applies-none (line_findings t f ++ deadline_finding t f ∷ [])
    (all_append (λ x. x ≡ none) (line_findings t f) (deadline_finding t f ∷ []) r.line (r.deadline, tt))))

-- The held flows of a consistent state are each right by themselves.
pub kept-alone : (s : State) → StateRules s → every (flow_alone s.table (held_flows s.slots)) (held_flows s.slots) ≡ true
kept-alone s k =
    all-every (flow_alone s.table (held_flows s.slots)) (held_flows s.slots) (all-imp (held_flows s.slots) (rules-alone s.table (held_flows s.slots)) k.flows.flows)
