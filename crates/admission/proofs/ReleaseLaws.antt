-- A release: the flow in a held slot was counted in at its queues, and the registry without it is consistent again.
-- Assumes nothing.
use Rattle.std.specs.Prelude.{Ok}
use Prim.Native.Nat.{ℕ, ◌+◌, ◌≤◌, ◌<◌, max}
use mathlib.Core.Path.{◌≡◌, refl, sym, ap, subst, ◌∙◌}
use mathlib.Core.Bool.{Bool, true, false, false≢true}
use mathlib.Core.List.{List, ◌∷◌}
use mathlib.Core.Option.{none, some}
use native.Mathlib.Omega.{arith}
use lib.ListN.{length, get_or, set}
use lib.Dec.{leb}
use borrow.Author.Tests.{leb-true, leb-false, lt-ltb, le-ltb, eq-eqb, ne_eqb}
use Rattle.model.specs.Words.{All, first_index}
use Rattle.model.specs.Sizes.{queues_most, slot_count}
use Rattle.model.specs.Formula.{Aggregate}
use Rattle.model.specs.QueueTable.{Table}
use Rattle.model.specs.Orders.{Flow, release}
use Rattle.model.specs.Aggregates.{aggregate_at}
use Rattle.model.specs.Reference.{Slot, State, Outcome, held_flows, with_number, holds, first_cause, findings, whole, fill, perform, decide, apply}
use Rattle.model.proofs.Laws.All.{all-imp}
use Rattle.model.proofs.Laws.Figures.{carried}
use Rattle.model.proofs.Laws.Aggregates.{aggregate-perm}
use Rattle.model.proofs.Laws.Slot.{index-found, number-index, held-perm}
use Rattle.model.proofs.Laws.Reached.{StateRules, state-rules, rules-state, clear-keeps}
use Rattle.units.specs.View.{AtSource}
use Rattle.queue_table.specs.View.{table_of, hop_at}
use Rattle.bit_words.specs.View.{is_set}
use Rattle.flow_store.specs.View.{PackedStore, slots_of, slot_of, rate_at, share_at, flow_at, entries_in, flow_in}
use Rattle.flow_store.specs.Laws.{length-slots, slot_at, held-slot}
use Rattle.figures.specs.View.{Figures, Hops, FlowOf, PathCounted, Carried, Near, PathRemoved, figure_at, raised}
use Rattle.queue_table.proofs.EntryLaws.{queue-low}
use Rattle.recount.specs.View.{Ranged, OnQueues, FramesRaised}
use Rattle.admission.specs.View.{state_of, answer_of, ConsistentArrays, Stepped}
use Rattle.admission.proofs.ConsistentLaws.{ranges, filled}
use Rattle.admission.proofs.HeldLaws.{by_itself, on-queues, countable, kept-alone}

-- A queue's figures that only lack their largest frame, once that is raised.
raised-right : {sure : Type 0} (a b : Aggregate) → Near sure a b → raised a b.frame ≡ b
unfolding raised
raised-right a b l = λ i. record { rate = l.rate i; burst = l.burst i; frame = frame i }
  where
    frame : max a.frame b.frame ≡ b.frame
    frame = omega (arith, l.low)

left-right : {sure : Type 0} (a b : Aggregate) → sure → Near sure a b → a ≡ b
left-right a b s l = λ i. record { rate = l.rate i; burst = l.burst i; frame = l.frame s i }

module _ (table bits store figures : List ℕ) (k : ConsistentArrays table bits store figures) where
  abbrev t : Table
  t = table_of table

  rules : StateRules (state_of table bits store)
  rules = state-rules (state_of table bits store) k.is-consistent

  pub on : OnQueues table bits store
  on = on-queues table bits store k.formed k.stored rules.table (kept-alone (state_of table bits store) rules)

  module _ (slot : ℕ) (inside : slot < slot_count) (held : is_set bits slot ≡ true) where
    abbrev entries : List ℕ
    entries = entries_in store slot

    abbrev flow : Flow
    flow = flow_in store slot

    abbrev left : List Flow
    left = held_flows (set (slots_of bits store) slot none)

    pub found : get_or (slots_of bits store) slot none ≡ some flow
    found = held-slot bits store slot inside held

    pub ranged : Ranged table store slot
    ranged = (countable table bits store k.formed k.stored rules.table (kept-alone (state_of table bits store) rules)).each slot inside held

    some-rate : 1 ≤ rate_at store slot
    unfolding flow_at
    some-rate =
        (ranges flow (by_itself table bits store k.formed k.stored rules.table (kept-alone (state_of table bits store) rules) slot inside held).0).some-rate

    pub is : FlowOf (share_at store slot) entries flow
    unfolding flow_at
    is = record { is = refl; path-is = refl }

    pub with-flow : Figures t (flow ∷ left) figures
    with-flow =
        record {
          long = k.exact.long;
          same = λ e lt. k.exact.same e lt ∙ aggregate-perm t (held-perm (slots_of bits store) slot found) (hop_at e);
        }

    pub counted : PathCounted (share_at store slot) table entries figures
    counted =
        record { f = flow; fs = left; named = on slot inside held; is = is; exact = with-flow }

    -- Its share and its path, read out.
    module _ (own : Aggregate) (copied : List ℕ) (share-is : own ≡ share_at store slot) (path : copied ≡ entries) where
      pub share-ranged : AtSource own
      share-ranged = subst AtSource (sym share-is) ranged.share

      pub path-ranged : Hops table copied
      path-ranged = rw path ranged.hops

      pub path-counted : PathCounted own table copied figures
      path-counted = rw (share-is, path) counted

      pub path-removed : (figures' : List ℕ) (again : Bool) → PathRemoved own table copied figures figures' again → PathRemoved (share_at store slot) table entries figures figures' again
      path-removed figures' again left = rw (share-is, path) at left

    -- The slot is empty.
    module _ {bits' store' : List ℕ} (view : slots_of bits' store' ≡ set (slots_of bits store) slot none) (stored : PackedStore bits' store') where
      rules' : StateRules (state_of table bits' store')
      unfolding fill
      rules' =
          subst (λ (l : List Slot). StateRules (record { table = t; slots = l })) (sym view)
          (clear-keeps (state_of table bits store) slot rules)

      carries : Carried t left
      carries =
          carried t left
          (subst (λ (l : List Slot). All (λ f. 1 ≤ f.rate) (held_flows l)) view
          (all-imp (held_flows (slots_of bits' store')) (λ f r. (ranges f r.range).some-rate) rules'.flows.flows))

      kept_again : {figures' : List ℕ} → Figures t left figures' → ConsistentArrays table bits' store' figures'
      kept_again {figures'} exact =
          record {
            formed = k.formed;
            stored = stored;
            is-consistent = rules-state (state_of table bits' store') rules';
            exact = subst (λ (l : List Slot). Figures t (held_flows l) figures') (sym view) exact;
          }

      pub entries-low-left : (i : ℕ) → i < slot_count → is_set bits' i ≡ true → All (λ e. e < queues_most) (entries_in store' i)
      entries-low-left i lt set =
          all-imp (entries_in store' i) (λ e q. queue-low table e q k.formed.few)
          (on-queues table bits' store' k.formed stored rules'.table (kept-alone (state_of table bits' store') rules') i lt set)

      module _ {again : Bool} {figures' : List ℕ} (removed : PathRemoved (share_at store slot) table entries figures figures' again) where
        at-queue : (e : ℕ) → e < queues_most → Near (again ≡ false) (figure_at figures' e) (aggregate_at t left (hop_at e))
        at-queue = removed.left flow left (on slot inside held) is with-flow some-rate carries

        pub kept-left : again ≡ false → ConsistentArrays table bits' store' figures'
        kept-left known =
            kept_again (record {
              long = removed.long;
              same = λ e lt. left-right _ _ known (at-queue e lt);
            })

        pub kept-raised : {figures'' : List ℕ} → FramesRaised bits' store' figures' figures'' → ConsistentArrays table bits' store' figures''
        kept-raised raise =
            kept_again (record {
              long = raise.long;
              same = λ e lt.
                  raise.same t e lt
                  ∙ ap (λ (l : List Slot). raised (figure_at figures' e) (aggregate_at t (held_flows l) (hop_at e)).frame) view
                  ∙ raised-right _ _ (at-queue e lt);
            })

module _ (number : ℕ) where
  held-bit : (b : Bool) (f : Flow) → holds number (slot_of b f) ≡ true → b ≡ true
  unfolding slot_of holds
  held-bit true f e = refl
  held-bit false f e = absurd (false≢true e)

  module _ (bits store : List ℕ) where
    -- 13: no slot holds the number.
    pub not-held : (t : Table) → first_index (holds number) (slots_of bits store) ≡ slot_count
        → first_cause (findings (record { table = t; slots = slots_of bits store }) (release number)) ≡ some (record { code = 13; link = 0; level = 0 })
    unfolding findings first_cause whole
    not-held t none-holds =
        let none-held : leb 1 (with_number number (held_flows (slots_of bits store))) ≡ false
        = number-index number (slots_of bits store) ∙ le-ltb (first_index (holds number) (slots_of bits store)) (length (slots_of bits store)) (omega (arith, none-holds, length-slots bits store)) in
        let zero_held : with_number number (held_flows (slots_of bits store)) ≡ 0 = omega (arith, leb-false 1 (with_number number (held_flows (slots_of bits store))) none-held) in
        rw (eq-eqb (with_number number (held_flows (slots_of bits store))) 0 zero_held)

    -- A slot holds it.
    module _ (slot : ℕ) (found : slot ≡ first_index (holds number) (slots_of bits store)) (inside : slot < slot_count) where
      pub slot-set : is_set bits slot ≡ true
      slot-set =
          held-bit (is_set bits slot) _
          (ap (holds number) (sym (slot_at bits store slot inside))
          ∙ ap (λ (i : ℕ). holds number (get_or (slots_of bits store) i none)) found
          ∙ index-found (holds number) none (slots_of bits store) (omega (arith, sym found, inside, length-slots bits store)))

      nothing : (t : Table) → first_cause (findings (record { table = t; slots = slots_of bits store }) (release number)) ≡ none
      unfolding findings first_cause whole
      nothing t =
          let some-held : leb 1 (with_number number (held_flows (slots_of bits store))) ≡ true
          = number-index number (slots_of bits store) ∙ lt-ltb (first_index (holds number) (slots_of bits store)) (length (slots_of bits store)) (omega (arith, sym found, inside, length-slots bits store)) in
          rw (ne_eqb (with_number number (held_flows (slots_of bits store))) 0 (λ z. omega (arith, leb-true 1 (with_number number (held_flows (slots_of bits store))) some-held)))

      -- The slot of the flow with the number is empty, and that slot is answered.
      pub stepped-released : {table bits' store' figures' : List ℕ} → slots_of bits' store' ≡ set (slots_of bits store) slot none → ConsistentArrays table bits' store' figures'
          → Stepped (release number) table bits store bits' store' figures' (Ok (slot + 1))
      unfolding apply decide perform fill
      stepped-released {table} view kept =
          let s : State = state_of table bits store in
          let done : apply s (release number) ≡ fill s (first_index (holds number) (slots_of bits store)) none = ap (decide s (release number)) (nothing (table_of table)) in
          record {
            answer = ap (λ (i : ℕ). answer_of (Ok (i + 1))) found ∙ filled s (first_index (holds number) (slots_of bits store)) none ∙ sym (ap (λ (out : Outcome). out.answer) done);
            next = ap (λ (l : List Slot). record { table = table_of table; slots = l }) (view ∙ ap (λ (i : ℕ). set (slots_of bits store) i none) found) ∙ sym (ap (λ (out : Outcome). out.next) done);
            kept = kept;
          }
