-- A test of the values at 0 to n - 1, one value at a time; a link and a table judged by their numbers.
-- By induction on n. Assumes nothing.
use Prim.Native.Nat.{ℕ, zero, suc, ◌+◌}
use mathlib.Core.Path.{◌≡◌, refl, sym, ap, ◌∙◌}
use mathlib.Core.Bool.{Bool, not, ◌&&◌}
use mathlib.Core.List.{List, [], ◌∷◌, ◌++◌}
use native.Mathlib.Omega.{arith}
use lib.Dec.{leb, eqb}
use Rattle.std.specs.List.{list_all, range_with_len}
use Rattle.model.specs.Words.{every}
use Rattle.model.specs.Sizes.{links_most, levels_most}
use Rattle.model.specs.Columns.{between}
use Rattle.model.specs.QueueTable.{row_in_range}
use Rattle.model.specs.Consistent.{row_of, link_consistent, table_consistent}
use Rattle.queue_table.specs.View.{up_to, queue_at, link_count, from_at, to_at, levels_at, link_at, table_of}
use Rattle.queue_table.proofs.ViewLaws.{length_up, up_same}

module _ {A : Type 0} where
  -- The first value stands before those after it.
  up-front : (n : ℕ) (f : ℕ → A) → up_to (suc n) f ≡ f 0 ∷ up_to n (λ i. f (suc i))
  unfolding up_to
  up-front zero f = refl
  up-front (suc n) f = ap (λ (l : List A). l ++ (f (suc n) ∷ [])) (up-front n f)

module _ {A : Type 0} (test : A → Bool) (f : ℕ → A) where
  range-from : (a n : ℕ) → list_all (λ i. test (f i)) (range_with_len a n) ≡ every test (up_to n (λ i. f (a + i)))
  unfolding every up_to
  range-from a zero = refl
  range-from a (suc n) =
      ap (λ (b : Bool). test (f a) && b) (range-from (a + 1) n ∙ ap (every test) (up_same n (λ i. f (a + 1 + i)) (λ i. f (a + suc i)) (λ i h. ap f (omega arith))))
      ∙ ap (λ (k : ℕ). test (f k) && every test (up_to n (λ i. f (a + suc i)))) (omega arith)
      ∙ sym (ap (every test) (up-front n (λ i. f (a + i))))

  -- A test of each number of a range is one of the values there.
  pub every_range : (n : ℕ) → list_all (λ i. test (f i)) (range_with_len 0 n) ≡ every test (up_to n f)
  every_range n = range-from 0 n ∙ ap (every test) (up_same n (λ i. f (0 + i)) f (λ i h. ap f (omega arith)))

module _ (table : List ℕ) where
  pub link_at_numbers : (i : ℕ)
      → link_consistent (link_at table i)
      ≡ (every (λ q. row_in_range (row_of (link_at table i) q)) (up_to (levels_at table i) (queue_at table i))
      && between 1 levels_most (levels_at table i)
      && not (eqb (from_at table i) (to_at table i)))
  unfolding link_consistent link_at
  link_at_numbers i = rw (length_up (levels_at table i) (queue_at table i))

  pub table_at : table_consistent (table_of table) ≡ (every link_consistent (up_to (link_count table) (link_at table)) && leb (link_count table) links_most)
  unfolding table_consistent table_of
  table_at = rw (length_up (link_count table) (link_at table))
