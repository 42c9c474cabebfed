-- Arrays that are filled by index: what stands at each index gives the whole.
-- Assumes nothing.
use Prim.Native.Nat.{ℕ, zero, suc, ◌<◌, ◌≤◌}
use mathlib.Core.Path.{◌≡◌, refl, sym, ap, ap₂, ◌∙◌}
use mathlib.Core.List.{List, [], ◌∷◌, ◌++◌, map, map-append}
use native.Mathlib.Omega.{arith}
use lib.ListN.{length, get_or, take}
use lib.Seq.{take-suc, take_all}
use Rattle.model.specs.Words.{All}
use Rattle.queue_table.specs.View.{up_to}

module _ {A B : Type 0} (f : A → B) (l : List A) (n : ℕ) (g : ℕ → B) (long : length l ≡ n) where
  -- The first k elements, with d past the end.
  first : (d : A) → ((i : ℕ) → i < n → f (get_or l i d) ≡ g i) → (k : ℕ) → k ≤ n → map f (take k l) ≡ up_to k g
  unfolding up_to
  first d same zero h = refl
  first d same (suc k) h =
      ap (map f) (take-suc l k d (omega (arith, h, long))) ∙ map-append f (take k l) (get_or l k d ∷ [])
      ∙ ap₂ (λ (m : List B) (b : B). m ++ (b ∷ [])) (first d same k (omega (arith, h))) (same k (omega (arith, h)))

  empty : map f [] ≡ up_to zero g
  unfolding up_to
  empty = refl

  -- What the array holds, where no index needs an element past the end.
  pub loaded : ((i : ℕ) (d : A) → i < n → f (get_or l i d) ≡ g i) → map f l ≡ up_to n g
  loaded same = case l refl
    where
      case : (m : List A) → l ≡ m → map f l ≡ up_to n g
      case [] e = ap (map f) e ∙ rw (sym long, e) empty
      case (d ∷ m) e = ap (map f) (sym (take_all n l (omega (arith, long)))) ∙ first d (λ i h. same i d h) n (omega arith)

-- What holds at each index holds of all.
pub loaded_all : {A : Type 0} (P : A → Type 0) (l : List A) (n : ℕ) → length l ≡ n → ((i : ℕ) (d : A) → i < n → P (get_or l i d)) → All P l
loaded_all P [] n long each = tt
loaded_all P (x ∷ l) n long each = (each 0 x (omega (arith, long)), loaded_all P l (length l) refl (λ i d h. each (suc i) d (omega (arith, h, long))))
