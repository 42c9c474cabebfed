-- The figures of the slots from slot i on, one slot more at a time: a held slot's flow is counted in, a free one adds nothing.
-- Assumes nothing.
use Prim.Native.Nat.{ℕ, suc, ◌+◌, ◌-◌, ◌*◌, ◌^◌, ◌<◌}
use mathlib.Core.Path.{◌≡◌, sym, ap, ◌∙◌}
use mathlib.Core.Bool.{Bool, true, false}
use mathlib.Core.List.{List, ◌∷◌, map}
use native.Mathlib.Omega.{arith}
use native.Mathlib.Numerals.{add-one}
use lib.ListN.{length}
use Rattle.model.specs.Sizes.{slot_count}
use Rattle.model.specs.Formula.{Aggregate}
use Rattle.model.specs.Reference.{Slot, held_flows}
use Rattle.queue_table.specs.View.{table_of, hop_at}
use Rattle.bit_words.specs.View.{is_set}
use Rattle.flow_store.specs.View.{share_at, flow_at, slot_of, slot_in, slots_from, slots_of, entries_in, flow_in}
use Rattle.figures.specs.View.{figure_numbers, Below, FlowOf, PathAdded}
use Rattle.figures.proofs.AddLaws.{figures-added}
use Rattle.figures.proofs.ClearLaws.{figures-none}
use Rattle.recount.specs.View.{Counted, Recounted}

module _ (bits store : List ℕ) where
  abbrev pub rest : (i : ℕ) → List Slot
  rest i = slots_from (slot_count - i) i bits store

  -- Slot i, and those after it.
  pub rest-next : (i : ℕ) → i < slot_count → rest i ≡ slot_in bits store i ∷ rest (i + 1)
  unfolding slots_from
  rest-next i h =
      let m : slot_count - i ≡ suc (slot_count - (i + 1)) = omega arith in
      ap (λ (n : ℕ). slots_from n i bits store) m
      ∙ ap (λ (n : ℕ). slot_in bits store i ∷ slots_from (slot_count - (i + 1)) n bits store) (sym (add-one i))

  pub flows-free : (i : ℕ) → i < slot_count → is_set bits i ≡ false → held_flows (rest i) ≡ held_flows (rest (i + 1))
  unfolding slot_of held_flows
  flows-free i h free =
      ap held_flows (rest-next i h) ∙ ap (λ (b : Bool). held_flows (slot_of b (flow_in store i) ∷ rest (i + 1))) free

  pub flows-held : (i : ℕ) → i < slot_count → is_set bits i ≡ true → held_flows (rest i) ≡ flow_in store i ∷ held_flows (rest (i + 1))
  unfolding slot_of held_flows
  flows-held i h held =
      ap held_flows (rest-next i h) ∙ ap (λ (b : Bool). held_flows (slot_of b (flow_in store i) ∷ rest (i + 1))) held

module _ (table bits store : List ℕ) where
  pub counted_none : (figures : List ℕ) → length figures ≡ figure_numbers → Below 0 figures → Counted table bits store figures slot_count
  unfolding slots_from held_flows
  counted_none figures long below =
      record { long = long; below = λ j. omega (arith, below j); same = λ on. figures-none (table_of table) figures long below }

  pub counted-all : (figures : List ℕ) → Counted table bits store figures 0 → Recounted table bits store figures
  unfolding slots_of
  counted-all figures all = record { same = all.same }

  module _ (i : ℕ) (inside : i < slot_count) {figures : List ℕ} (so_far : Counted table bits store figures (i + 1)) where
    pub counted-free : is_set bits i ≡ false → Counted table bits store figures i
    counted-free free =
        record {
          long = so_far.long;
          below = λ j. omega (arith, so_far.below j);
          same = λ on. rw (flows-free bits store i inside free) (so_far.same on);
        }

    pub counted-held : {share : Aggregate} {entries figures' : List ℕ} → is_set bits i ≡ true → share ≡ share_at store i → entries ≡ entries_in store i
        → PathAdded share table entries figures figures'
        → Counted table bits store figures' i
    unfolding flow_at
    counted-held {share} {entries} held share-is path added =
        let is : FlowOf share entries (flow_in store i) = record { is = sym share-is; path-is = ap (map hop_at) (sym path) } in
        record {
          long = added.long;
          below = λ j. omega (arith, added.below ((slot_count - (i + 1)) * 2 ^ 35) so_far.below j);
          same = λ on. rw (flows-held bits store i inside held) (figures-added (flow_in store i) (rw path (on i inside held)) is added (so_far.same on));
        }
