-- The lists that the arrays stand for, one element at a time: what is left at `i` is the element there and what is left at `i + 1`.
-- Assumes nothing.
use Prim.Native.Nat.{ℕ, suc, ◌+◌, ◌-◌, max, ◌≤◌, ◌<◌}
use mathlib.Core.Path.{◌≡◌, sym, ap, ap₂, ◌∙◌}
use mathlib.Core.List.{List, [], ◌∷◌, map}
use native.Mathlib.Omega.{arith}
use native.Mathlib.Numerals.{add-one}
use lib.ListN.{length, get_or, set, drop, length-map, get_or-map, drop_of_length-le}
use lib.Seq.{drop-cons}
use Rattle.units.specs.declared.Bytes.{Bytes}
use Rattle.model.specs.Formula.{blocking}
use Rattle.model.proofs.Laws.List.{drop-set}
use Rattle.model.specs.Laws.LinkSteps.{blockings}
use Rattle.model.proofs.Laws.LinkSteps.{blocking-more}
use Rattle.units.specs.declared.Aggregate.{Aggregate}
use Rattle.units.specs.View.{aggregate_of}
use Rattle.link_check.specs.View.{aggregates_of, bytes_of}

module _ {A : Type 0} {B : Type 0} (f : A → B) where
  pub mapped_next : (l : List A) (i : ℕ) (d : A) → i < length l → drop i (map f l) ≡ f (get_or l i d) ∷ drop (i + 1) (map f l)
  mapped_next l i d h = rw add-one (rw (← get_or-map f l i d) (drop-cons (map f l) i (f d) (simp length-map h)))

  pub mapped_end : (l : List A) (i : ℕ) → length l ≤ i → drop i (map f l) ≡ []
  mapped_end l i h = drop_of_length-le (map f l) {i = i} (simp length-map h)

-- What is read past the end of the levels.
abbrev pub blank : Aggregate
blank = record { rate = record { 0 = 0 }; burst = record { 0 = 0 }; frame = record { 0 = 0 } }

pub level-next : (l : List Aggregate) (i : ℕ) → i < length l → drop i (aggregates_of l) ≡ aggregate_of (get_or l i blank) ∷ drop (i + 1) (aggregates_of l)
level-next l i h = mapped_next aggregate_of l i blank h

-- The step of the loop that goes from the last level up: `top` is what blocks above level `i`.
module _ (alone : ℕ) (levels : List Aggregate) (top : Bytes) (i : ℕ) (pos : 0 < i) (within : i ≤ length levels)
    (so_far : top.0 ≡ blocking alone (drop i (aggregates_of levels))) where
  previous : drop (i - 1) (aggregates_of levels) ≡ aggregate_of (get_or levels (i - 1) blank) ∷ drop i (aggregates_of levels)
  previous =
      let e : i - 1 + 1 ≡ i = omega arith in
      rw e at (level-next levels (i - 1) (omega arith))

  pub top-previous : max (get_or levels (i - 1) blank).frame.0 top.0 ≡ blocking alone (drop (i - 1) (aggregates_of levels))
  top-previous = rw so_far (sym (ap (blocking alone) previous ∙ blocking-more alone _ _))

  pub blocked-previous : (blocked : List Bytes) → i ≤ length blocked → bytes_of (drop i blocked) ≡ blockings alone (drop i (aggregates_of levels))
      → bytes_of (drop (i - 1) (set blocked (i - 1) top)) ≡ blockings alone (drop (i - 1) (aggregates_of levels))
  unfolding blockings
  blocked-previous blocked long rest =
      let next : suc (i - 1) ≡ i = omega arith in
      ap bytes_of (rw next at (drop-set blocked (i - 1) top (omega arith))) ∙ ap₂ (λ (n : ℕ) (l : List ℕ). n ∷ l) so_far rest ∙ sym (ap (blockings alone) previous)
