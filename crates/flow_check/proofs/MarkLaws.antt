-- Flow numbers marked slot after slot: where a slot's number isn't marked yet, the slot is the first that holds it. Assumes nothing.
use Prim.Native.Nat.{ℕ, ◌+◌, ◌≤◌, ◌<◌}
use mathlib.Core.Path.{◌≡◌, refl, sym, ap, subst, ◌∙◌}
use mathlib.Core.Bool.{Bool, true, false, true≢false, false≢true}
use mathlib.Core.List.{List}
use mathlib.Core.Option.{none, some}
use native.Mathlib.Omega.{arith}
use borrow.Author.Tests.{ltb-true, ltb-false, lt-ltb, le-ltb, eqb-true, eqb-false, ne_eqb}
use lib.ListN.{length, get_or, replicate, length-replicate}
use lib.Dec.{ltb, eqb}
use Rattle.model.specs.Words.{first_index}
use Rattle.model.specs.Sizes.{number_most}
use Rattle.model.specs.Reference.{Slot, holds}
use Rattle.model.proofs.Laws.Slot.{index-found, index-first}
use Rattle.bit_words.specs.View.{is_set, BitChanged}
use Rattle.bit_words.specs.Laws.{none-set}
use Rattle.flow_check.specs.View.{number_words, Marked}

-- None is marked at the start.
pub marked-none : (slots : List Slot) (k : ℕ) → k ≡ number_words → Marked slots 0 (replicate k 0)
marked-none slots k e = record { long = length-replicate k 0 ∙ e; seen = λ n h. none-set k n ∙ sym (le-ltb (first_index (holds n) slots) 0 (omega arith)) }

-- A slot holds one number.
holds-one : (n m : ℕ) (x : Slot) → holds n x ≡ true → (m ≡ n → ⊥) → holds m x ≡ false
unfolding holds
holds-one n m none e ne = absurd (false≢true e)
holds-one n m (some f) e ne = ne_eqb f.number m (λ z. ne (sym z ∙ eqb-true f.number n e))

module _ (slots : List Slot) (i : ℕ) where
  abbrev first : (n : ℕ) → ℕ
  first n = first_index (holds n) slots

  -- A number that slot i doesn't hold has its first slot elsewhere.
  passed : (n : ℕ) → i < length slots → holds n (get_or slots i none) ≡ false → ltb (first n) (i + 1) ≡ ltb (first n) i
  passed n inside other = go (ltb (first n) i) refl
    where
      elsewhere : first n ≡ i → ⊥
      elsewhere e =
          true≢false
          (sym (index-found (holds n) none slots (omega (arith, e, inside)))
          ∙ ap (λ (k : ℕ). holds n (get_or slots k none)) e
          ∙ other)

      go : (b : Bool) → ltb (first n) i ≡ b → ltb (first n) (i + 1) ≡ b
      go true e = lt-ltb (first n) (i + 1) (omega (arith, ltb-true (first n) i e))
      go false e = le-ltb (first n) (i + 1) (omega (arith, ltb-false (first n) i e, elsewhere))

  module _ {marks : List ℕ} (marked : Marked slots i marks) where
    pub marked-free : i < length slots → get_or slots i none ≡ none → Marked slots (i + 1) marks
    unfolding holds
    marked-free inside e = record { long = marked.long; seen = λ n h. marked.seen n h ∙ sym (passed n inside (ap (holds n) e)) }

    pub marked-twice : (n : ℕ) → n ≤ number_most → is_set marks n ≡ true → first n ≡ i → ⊥
    marked-twice n small set e = omega (arith, e, ltb-true (first n) i (sym (marked.seen n small) ∙ set))

    module _ (n : ℕ) (small : n ≤ number_most) (here : holds n (get_or slots i none) ≡ true) (new : is_set marks n ≡ false) where
      pub marked-first : first n ≡ i
      marked-first = go (ltb i (first n)) refl
        where
          go : (b : Bool) → ltb i (first n) ≡ b → first n ≡ i
          go true e = absurd (true≢false (sym here ∙ index-first (holds n) none slots i (ltb-true i (first n) e)))
          go false e = omega (arith, ltb-false i (first n) e, ltb-false (first n) i (sym (marked.seen n small) ∙ new))

      pub marked_next : i < length slots → {marks' : List ℕ} → BitChanged n true marks marks' → Marked slots (i + 1) marks'
      marked_next inside {marks'} change = record { long = change.long ∙ marked.long; seen = λ m h. go m h (eqb m n) refl }
        where
          go : (m : ℕ) → m ≤ number_most → (b : Bool) → eqb m n ≡ b → is_set marks' m ≡ ltb (first m) (i + 1)
          go m h true e =
              let own : is_set marks' n ≡ ltb (first n) (i + 1) = change.own ∙ sym (lt-ltb (first n) (i + 1) (omega (arith, marked-first))) in
              subst (λ (k : ℕ). is_set marks' k ≡ ltb (first k) (i + 1)) (sym (eqb-true m n e)) own
          go m h false e =
              let other = eqb-false m n e in
              change.others m other ∙ marked.seen m h ∙ sym (passed m inside (holds-one n m (get_or slots i none) here other))
