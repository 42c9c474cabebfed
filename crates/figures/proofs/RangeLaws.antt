-- What `all` over the numbers below n says of each of them.
-- Assumes nothing.
use Prim.Native.Nat.{ℕ, ◌<◌}
use mathlib.Core.Path.{◌≡◌, refl, subst, ◌∙◌}
use mathlib.Core.Bool.{Bool, true, false}
use native.Mathlib.Omega.{arith}
use lib.ListN.{length, get_or}
use Rattle.std.specs.Bool.{MatchBool}
use Rattle.std.specs.List.{AllWithin, HoldsAt, range_with_len}
use Rattle.std.proofs.lemmas.List.FromFn.{get_or-range_with_len, length-range_with_len}

-- `Yes` holds of each element of the range, or `No` of one.
abbrev pub RangeCases : (Yes No : ℕ → Type 0) (n : ℕ) (r : Bool) → Type 0
RangeCases Yes No n r =
    let all = range_with_len 0 n in
    MatchBool r (AllWithin Yes all 0 (length all)) ((k : ℕ) × (k < length all) × HoldsAt No all k)

stands : (n i : ℕ) → i < n → get_or (range_with_len 0 n) i 0 ≡ i
stands n i h = get_or-range_with_len 0 n i 0 h ∙ omega arith

module _ (Yes No : ℕ → Type 0) (n : ℕ) (r : Bool) (ran : RangeCases Yes No n r) where
  pub all_below : r ≡ true → (i : ℕ) → i < n → Yes i
  all_below t i h =
      let each = subst (RangeCases Yes No n) t ran in
      subst Yes (stands n i h) (each i 0 (omega arith) (omega (arith, h, length-range_with_len 0 n)))

  pub one_below : r ≡ false → (i : ℕ) × (i < n) × No i
  one_below f =
      let one = subst (RangeCases Yes No n) f ran in
      let low : one.0 < n = omega (arith, one.1, length-range_with_len 0 n) in
      (one.0, low, subst No (stands n one.0 low) (one.2 0))

  pub true_below : ((i : ℕ) → i < n → No i → ⊥) → r ≡ true
  true_below none = go r refl
    where
      go : (b : Bool) → r ≡ b → r ≡ true
      go true e = e
      go false e = let one = one_below e in absurd (none one.0 one.1 one.2)
