-- Sums and largest values over a list, by any measure of its elements.
use Rattle.std.specs.Prelude.{ℕ, ◌+◌, max, List, [], ◌∷◌}

module _ {A : Type 0} where
  -- The sum of the elements' measures.
  unfoldable pub total : (A → ℕ) → List A → ℕ
  total f [] = 0
  total f (x ∷ xs) = f x + total f xs

  -- The largest of the elements' measures, 0 where there is none.
  unfoldable pub largest : (A → ℕ) → List A → ℕ
  largest f [] = 0
  largest f (x ∷ xs) = max (f x) (largest f xs)
