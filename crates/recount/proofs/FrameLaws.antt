-- The loop that raises the largest frames slot by slot: the figures so far, raised by what the slots left have, are the whole.
-- Assumes nothing.
use Prim.Native.Nat.{ℕ, ◌+◌, ◌-◌, ◌≤◌, ◌<◌, max}
use mathlib.Core.Path.{◌≡◌, refl, sym, ap, ◌∙◌}
use mathlib.Core.Bool.{Bool, true, false}
use mathlib.Core.List.{List, [], ◌∷◌, map}
use mathlib.Core.Option.{none, some}
use native.Mathlib.Omega.{arith}
use native.Mathlib.Nat.{zero-max}
use lib.ListN.{length}
use Rattle.model.specs.Sizes.{queues_most, slot_count}
use Rattle.model.specs.Total.{largest}
use Rattle.model.specs.Formula.{Aggregate}
use Rattle.model.specs.QueueTable.{Table}
use Rattle.model.specs.Aggregates.{all_shares, shares_at, aggregate_at}
use Rattle.model.specs.Reference.{Slot, held_flows}
use Rattle.model.specs.WithFlow.{together}
use Rattle.model.proofs.Laws.Figures.{aggregate-more}
use Rattle.queue_table.specs.View.{hop_at}
use Rattle.bit_words.specs.View.{is_set}
use Rattle.flow_store.specs.View.{frame_at, flow_at, slot_of, slot_in, slots_from, slots_of, entries_in, flow_in}
use Rattle.figures.specs.View.{figure_numbers, figure_at, raised, FrameRaised}
use Rattle.figures.proofs.RaiseLaws.{raised-none, raised-twice}
use Rattle.recount.specs.View.{SlotRaised, FramesRaised}
use Rattle.recount.proofs.RecountLaws.{rest, rest-next}

-- The largest frame of the flows in these slots at queue e.
abbrev pub frame_of : Table → List Slot → (e : ℕ) → ℕ
frame_of t slots e = (aggregate_at t (held_flows slots) (hop_at e)).frame

frame-cons : (t : Table) (x : Slot) (slots : List Slot) (e : ℕ) → frame_of t (x ∷ slots) e ≡ max (frame_of t (x ∷ []) e) (frame_of t slots e)
unfolding held_flows shares_at aggregate_at all_shares largest together
frame-cons t none slots e = sym (zero-max (frame_of t slots e))
frame-cons t (some f) slots e = ap (λ (a : Aggregate). a.frame) (aggregate-more t f (held_flows slots) (hop_at e))

module _ (bits store : List ℕ) where
  -- The figures so far, `figures`, with the slots from `slot` on left.
  pub record Raising (before figures : List ℕ) (slot : ℕ) : Type 0 where
    pub long : length figures ≡ figure_numbers
    pub left : (t : Table) (e : ℕ) → e < queues_most
        → raised (figure_at figures e) (frame_of t (rest bits store slot) e) ≡ raised (figure_at before e) (frame_of t (slots_of bits store) e)

  module _ (i : ℕ) (figures : List ℕ) where
    -- A free slot raises nothing, a held one its flow's largest frame.
    pub slot-free : length figures ≡ figure_numbers → is_set bits i ≡ false → SlotRaised bits store i figures figures
    unfolding slot_of held_flows shares_at aggregate_at all_shares largest
    slot-free long free =
        record {
          long = long;
          same = λ t e lt.
              sym (raised-none (figure_at figures e))
              ∙ sym (ap (λ (b : Bool). raised (figure_at figures e) (frame_of t (slot_of b (flow_in store i) ∷ []) e)) free);
        }

    pub slot_held : {figures' entries : List ℕ} {frame : ℕ} → is_set bits i ≡ true → frame ≡ frame_at store i → entries ≡ entries_in store i
        → FrameRaised frame entries figures figures' → SlotRaised bits store i figures figures'
    unfolding slot_of held_flows flow_at
    slot_held held frame_is path own =
        record {
          long = own.long;
          same = λ t e lt.
              own.same t (flow_in store i) (sym frame_is) (ap (map hop_at) (sym path)) e lt
              ∙ sym (ap (λ (b : Bool). raised (figure_at figures e) (frame_of t (slot_of b (flow_in store i) ∷ []) e)) held);
        }

  module _ (before : List ℕ) where
    pub raising-none : length before ≡ figure_numbers → Raising before before 0
    unfolding slots_of
    raising-none long = record { long = long; left = λ t e lt. refl }

    module _ {figures : List ℕ} {slot : ℕ} (so_far : Raising before figures slot) where
      pub raising-next : {figures' : List ℕ} → slot < slot_count → SlotRaised bits store slot figures figures' → Raising before figures' (slot + 1)
      raising-next inside own =
          record {
            long = own.long;
            left = λ t e lt.
                let here : Slot = slot_in bits store slot in
                let later : List Slot = rest bits store (slot + 1) in
                ap (λ (a : Aggregate). raised a (frame_of t later e)) (own.same t e lt)
                ∙ raised-twice (figure_at figures e) (frame_of t (here ∷ []) e) (frame_of t later e)
                ∙ ap (raised (figure_at figures e)) (sym (ap (λ (l : List Slot). frame_of t l e) (rest-next bits store slot inside) ∙ frame-cons t here later e))
                ∙ so_far.left t e lt;
          }

      pub raising-all : slot_count ≤ slot → FramesRaised bits store before figures
      unfolding slots_from held_flows shares_at aggregate_at all_shares largest
      raising-all end =
          record {
            long = so_far.long;
            same = λ t e lt.
                let none_left : slot_count - slot ≡ 0 = omega arith in
                sym (raised-none (figure_at figures e))
                ∙ sym (ap (λ (n : ℕ). raised (figure_at figures e) (frame_of t (slots_from n slot bits store) e)) none_left)
                ∙ so_far.left t e lt;
          }
