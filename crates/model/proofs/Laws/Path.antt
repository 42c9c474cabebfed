-- A search along a path, and a sum along it: one hop on, at a hop that the search finds, and past the last hop.
-- By taking hop i out of the path. Assumes nothing.
use Rattle.std.specs.Prelude.{ℕ, ◌+◌, ◌≤◌, ◌<◌, ◌≡◌, Bool, true, false, length, get_or, take, drop}
use Rattle.std.proofs.Common.{sym, ◌∙◌, add-one, drop_of_length-le, take-suc, drop-cons}
use Rattle.std.proofs.Math.Path.{ap}
use mathlib.Core.List.{List, [], ◌∷◌, reverse, reverse-append}
use Rattle.std.proofs.Math.Option.{Option, none, some}
use Rattle.model.specs.Total.{total}
use Rattle.model.specs.Orders.{Hop}
use Rattle.model.specs.Reference.{Cause, at_hop}

-- The first i + 1 elements, the last of them first.
pub reverse-take : {A : Type 0} (l : List A) (i : ℕ) (d : A) → i < length l → reverse (take (i + 1) l) ≡ get_or l i d ∷ reverse (take i l)
reverse-take {A} l i d h = rw (add-one i) (ap (λ (m : List A). reverse m) (take-suc l i d h) ∙ reverse-append (take i l) (get_or l i d ∷ []))

module _ (code : ℕ) (test : List Hop → Hop → Bool) (path : List Hop) where
  -- What is left of the search at hop i, counted from 0.
  abbrev pub search_from : (i : ℕ) → Option Cause
  search_from i = at_hop code test (reverse (take i path)) (drop i path)

  at-hop : (i : ℕ) (d : Hop) → i < length path → search_from i ≡ at_hop code test (reverse (take i path)) (get_or path i d ∷ drop (i + 1) path)
  at-hop i d h = rw (add-one i) (ap (at_hop code test (reverse (take i path))) (drop-cons path i d h))

  pub search-on : (i : ℕ) (d : Hop) → i < length path → test (reverse (take i path)) (get_or path i d) ≡ false → search_from i ≡ search_from (i + 1)
  unfolding at_hop
  search-on i d h e = at-hop i d h ∙ simp e (ap (λ (before : List Hop). at_hop code test before (drop (i + 1) path)) (sym (reverse-take path i d h)))

  pub search-found : (i : ℕ) (d : Hop) → i < length path → test (reverse (take i path)) (get_or path i d) ≡ true
      → search_from i ≡ some (record { code = code; link = (get_or path i d).link; level = (get_or path i d).level })
  unfolding at_hop
  search-found i d h e = at-hop i d h ∙ simp e

  pub search-ended : (i : ℕ) → length path ≤ i → search_from i ≡ none
  unfolding at_hop
  search-ended i h = ap (at_hop code test (reverse (take i path))) (drop_of_length-le path h)

-- What is left of a sum from element i on.
module _ {A : Type 0} (f : A → ℕ) (l : List A) (i : ℕ) where
  pub total-on : (d : A) → i < length l → total f (drop i l) ≡ f (get_or l i d) + total f (drop (i + 1) l)
  unfolding total
  total-on d h = rw (add-one i) (ap (total f) (drop-cons l i d h))

  pub total-ended : length l ≤ i → total f (drop i l) ≡ 0
  unfolding total
  total-ended h = ap (total f) (drop_of_length-le l h)
