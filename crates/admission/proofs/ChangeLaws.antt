-- A change: the flow in the slot is counted in by its share, its figures are those with the new one in its place, and the registry is consistent again.
-- Assumes nothing.
use Rattle.std.specs.Prelude.{Result, Ok}
use Prim.Native.Nat.{ℕ, ◌+◌, ◌≤◌, ◌<◌}
use mathlib.Core.Path.{◌≡◌, refl, sym, ap, subst, ◌∙◌}
use mathlib.Core.Bool.{true, ◌&&◌}
use mathlib.Core.List.{List, ◌∷◌}
use mathlib.Core.Option.{Option, none, some}
use native.Mathlib.Omega.{arith}
use lib.ListN.{get_or, set, get_or-eq_default}
use lib.Dec.{ltb}
use borrow.Author.Tests.{lt-ltb, le-ltb}
use Rattle.model.specs.Words.{All}
use Rattle.model.specs.Sizes.{slot_count}
use Rattle.model.specs.Formula.{Aggregate}
use Rattle.model.specs.QueueTable.{Table}
use Rattle.model.specs.Orders as line
use Rattle.model.specs.Orders.{Flow, change, number_in_range, rate_in_range, change_in_range, changing, kind_number}
use Rattle.model.specs.Aggregates.{aggregate_at}
use Rattle.model.specs.Schedulable.{Named}
use Rattle.model.proofs.Laws.Columns.{between-true}
use Rattle.model.proofs.Laws.Test.{and_both}
use Rattle.model.proofs.Laws.Part.{all-part}
use Rattle.model.proofs.Laws.Aggregates.{aggregate-perm}
use Rattle.model.specs.Reference.{Slot, State, Cause, Outcome, held_flows, first_cause, whole, line_findings, link_findings, index_of, slot_with, changed, changed_slot, change_findings, findings, fill, perform, decide, apply}
use Rattle.model.proofs.Laws.Slot.{held_at, held-inside, clear-part, put-perm}
use Rattle.model.specs.Consistent.{consistent}
use Rattle.model.proofs.Laws.Consistent.{FlowRules}
use Rattle.model.proofs.Laws.Reached.{StateRules, state-rules, rules-state, apply-keeps}
use Rattle.units.specs.View.{AtSource}
use Rattle.queue_table.specs.View.{table_of, hop_at}
use Rattle.orders.specs.declared.Change.{Change}
use Rattle.orders.specs.View.{change_of}
use Rattle.bit_words.specs.View.{is_set}
use Rattle.flow_store.specs.View.{PackedStore, slots_of, frame_at, share_at, flow_at, entries_in, flow_in, ChangeNarrow}
use Rattle.causes.specs.declared.Cause as causes
use Rattle.causes.specs.View.{finding_of}
use Rattle.flow_store.specs.Laws.{length-slots}
use Rattle.figures.specs.View.{Figures, FlowOf, OnTable, ChangeChecked, PathChanged}
use Rattle.admission.specs.View.{state_of, answer_of, ConsistentArrays, Stepped}
use Rattle.admission.proofs.ConsistentLaws.{filled, held-named}
use Rattle.admission.proofs.ReleaseLaws as held
use Rattle.admission.proofs.ReleaseLaws.{slot-set}

-- 11 of a change that was read.
pub narrow : (given : Change) → change_in_range (change_of given) ≡ true → ChangeNarrow given
unfolding change_in_range
narrow given e =
    let (first, burst) = and_both (number_in_range given.number && rate_in_range given.rate.0) _ e in
    let (number, rate) = and_both (number_in_range given.number) _ first in
    record { rate = (between-true 1 10000000 given.rate.0 rate).1; burst = (between-true 84 1000000 given.burst.0 burst).1 }

-- 13: no slot holds the number.
pub not-held : (table bits store : List ℕ) (c : line.Change) → index_of c.number (slots_of bits store) ≡ slot_count
    → first_cause (findings (state_of table bits store) (change c)) ≡ some (record { code = 13; link = 0; level = 0 })
unfolding findings change_findings first_cause whole
not-held table bits store c end =
    ap (λ x. first_cause (change_findings (state_of table bits store) c x))
    (get_or-eq_default (slots_of bits store) none (omega (arith, length-slots bits store, end)))

-- The flow with the number is in this slot.
module _ (table bits store figures : List ℕ) (k : ConsistentArrays table bits store figures) (given : Change) (slot : ℕ) (at : slot ≡ index_of given.number (slots_of bits store))
    (inside : slot < slot_count) where
  abbrev s : State
  s = state_of table bits store

  abbrev t : Table
  t = table_of table

  abbrev c : line.Change
  c = change_of given

  abbrev entries : List ℕ
  entries = entries_in store slot

  abbrev flow : Flow
  flow = flow_in store slot

  abbrev others : List Flow
  others = held_flows (set (slots_of bits store) slot none)

  -- Its share at the source, with the new rate and burst.
  abbrev pub share : Aggregate
  share = record { rate = given.rate.0; burst = given.burst.0; frame = frame_at store slot }

  pub bit : is_set bits slot ≡ true
  bit = slot-set given.number bits store slot at inside

  rules : StateRules s
  rules = state-rules s k.is-consistent

  found : get_or (slots_of bits store) slot none ≡ some flow
  found = held.found table bits store figures k slot inside bit

  alone : FlowRules t (held_flows (slots_of bits store)) flow
  alone = held_at (FlowRules t (held_flows (slots_of bits store))) (slots_of bits store) slot rules.flows.flows found

  pub on-table : OnTable table entries
  unfolding flow_at line_findings
  on-table = record { named = held.on table bits store figures k slot inside bit; once = alone.line.1.1.0 }

  is-changed : FlowOf share entries (changed c flow)
  unfolding flow_at changed
  is-changed = record { is = refl; path-is = refl }

  others-named : All (λ g. All (Named t) g.path) others
  others-named = all-part (λ g. All (Named t) g.path) (clear-part (slots_of bits store) slot) (held-named table bits store figures k)

  -- The causes against the change.
  abbrev links : ℕ → List (Option Cause)
  links i = link_findings t (changed c flow ∷ held_flows (set (slots_of bits store) i none)) flow.path

  against : findings s (change c) ≡ whole 17 (ltb given.burst.0 (frame_at store slot)) ∷ links slot
  unfolding findings change_findings flow_at
  against =
      ap (change_findings s c) (ap (λ i. get_or (slots_of bits store) i none) (sym at) ∙ found)
      ∙ ap (λ i. whole 17 (ltb given.burst.0 (frame_at store slot)) ∷ links i) (sym at)

  pub over-burst : given.burst.0 < frame_at store slot → first_cause (findings s (change c)) ≡ some (record { code = 17; link = 0; level = 0 })
  unfolding first_cause whole
  over-burst lt = ap first_cause against ∙ rw (lt-ltb given.burst.0 (frame_at store slot) lt)

  past-burst : frame_at store slot ≤ given.burst.0 → first_cause (findings s (change c)) ≡ first_cause (links slot)
  unfolding first_cause whole
  past-burst le = ap first_cause against ∙ rw (le-ltb given.burst.0 (frame_at store slot) le)

  -- What the check of the links found.
  pub checked : frame_at store slot ≤ given.burst.0 → {r : Result (Unit {0}) causes.Cause} → ChangeChecked (share_at store slot) share table figures entries r
      → finding_of r ≡ first_cause (findings s (change c))
  unfolding flow_at changed
  checked le found_at =
      found_at.first others flow (changed c flow) k.formed on-table (held.is table bits store figures k slot inside bit) is-changed refl
      (held.with-flow table bits store figures k slot inside bit) others-named
      ∙ sym (past-burst le)

  -- The flow's share and path, read out.
  module _ (own : Aggregate) (copied : List ℕ) (share-is : own ≡ share_at store slot) (path : copied ≡ entries) where
    abbrev pub own-share : Aggregate
    own-share = record { rate = given.rate.0; burst = given.burst.0; frame = own.frame }

    own-is : own-share ≡ share
    own-is = ap (λ (a : Aggregate). record { rate = given.rate.0; burst = given.burst.0; frame = a.frame }) share-is

    pub path-on-table : OnTable table copied
    path-on-table = rw path on-table

    pub found-cause : own.frame ≤ given.burst.0 → (r : Result (Unit {0}) causes.Cause) → ChangeChecked own own-share table figures copied r
        → first_cause (findings s (change c)) ≡ finding_of r
    found-cause le r found_at =
        let frame : own.frame ≡ frame_at store slot = ap (λ (a : Aggregate). a.frame) share-is in
        sym (checked (omega arith) (rw (share-is, path) at found_at))

    pub path-moved : (figures' : List ℕ) → PathChanged own own-share table copied figures figures' → PathChanged (share_at store slot) share table entries figures figures'
    path-moved figures' moved = rw (share-is, path) at moved

    pub own-at-source : change_in_range c ≡ true → AtSource own-share
    own-at-source range =
        let small = narrow given range in
        subst AtSource (sym own-is) ((small.rate, small.burst, (held.ranged table bits store figures k slot inside bit).share.2))

  module _ (range : change_in_range c ≡ true) where
    -- The slot holds the flow so changed, its figures are those, and the slot is answered.
    pub stepped-changed : first_cause (findings s (change c)) ≡ none → {store' figures' : List ℕ}
        → slots_of bits store' ≡ set (slots_of bits store) slot (changed_slot c (get_or (slots_of bits store) slot none))
        → PackedStore bits store'
        → PathChanged (share_at store slot) share table entries figures figures'
        → Stepped (change c) table bits store bits store' figures' (Ok (slot + 1))
    unfolding apply decide perform fill flow_at changed changed_slot
    stepped-changed nothing {store'} {figures'} view stored moved =
        record { answer = answer; next = next; kept = record { formed = k.formed; stored = stored; is-consistent = is-consistent; exact = exact } }
      where
        done : apply s (change c) ≡ fill s (index_of given.number (slots_of bits store)) (changed_slot c (slot_with given.number (slots_of bits store)))
        done = ap (decide s (change c)) nothing

        answer : answer_of (Ok (slot + 1)) ≡ (apply s (change c)).answer
        answer = ap (λ (i : ℕ). answer_of (Ok (i + 1))) at ∙ filled s (index_of given.number (slots_of bits store)) (changed_slot c (slot_with given.number (slots_of bits store))) ∙ sym (ap (λ (out : Outcome). out.answer) done)

        next : state_of table bits store' ≡ (apply s (change c)).next
        next =
            ap (λ (l : List Slot). record { table = t; slots = l })
            (view ∙ ap (λ i. set (slots_of bits store) i (changed_slot c (get_or (slots_of bits store) i none))) at)
            ∙ sym (ap (λ (out : Outcome). out.next) done)

        is-consistent : consistent (state_of table bits store') ≡ true
        is-consistent = rw next (rules-state _ (apply-keeps s (change c) (kind_number changing) (refl, range) rules))

        exact : Figures t (held_flows (slots_of bits store')) figures'
        exact =
            let now =
            moved.same flow (changed c flow) others on-table.named (held.is table bits store figures k slot inside bit) is-changed refl
            (held.with-flow table bits store figures k slot inside bit) in
            let seen : slots_of bits store' ≡ set (slots_of bits store) slot (some (changed c flow)) =
            view ∙ ap (λ x. set (slots_of bits store) slot (changed_slot c x)) found in
            record {
              long = now.long;
              same = λ e lt.
                  now.same e lt
                  ∙ sym (aggregate-perm t (put-perm (slots_of bits store) slot (changed c flow) (held-inside (slots_of bits store) slot found)) (hop_at e))
                  ∙ ap (λ (l : List Slot). aggregate_at t (held_flows l) (hop_at e)) (sym seen);
            }
