-- Lists by index: an element that is there, one replaced, and what holds at each place so far. Assumes nothing.
use Prim.Native.Nat.{ℕ, zero, suc, ◌+◌, ◌≤◌, ◌<◌}
use Rattle.std.specs.Prelude.{◌≡◌, eqb, length, set, drop}
use Rattle.std.proofs.Common.{subst, ap₂, ◌∙◌, eq-eqb, drop-cons, drop-set-lt, get_or-set_same, lt-length-set}
use Rattle.std.proofs.Math.Path.{sym}
use mathlib.Core.List.{List, [], ◌∷◌}
use Rattle.std.proofs.Math.Option.{some, none-ne-some}
use native.Mathlib.Omega.{arith}
use Rattle.std.proofs.Math.Decide.{dec_lt}
use Rattle.std.proofs.Math.Dec.{eqb-suc-suc, eqb-zero-suc}
use Rattle.model.specs.Words.{is_none, nth}
use Rattle.std.proofs.Math.ListN.{get_elem?}

module _ {A : Type 0} where
  pub index_below : (l : List A) (i : ℕ) (x : A) → get_elem? l i ≡ some x → i < length l
  index_below [] i x e = absurd (none-ne-some x e)
  index_below (y ∷ l) zero x e = omega arith
  index_below (y ∷ l) (suc i) x e = omega (arith, index_below l i x e)

  -- The same by a number, counted from 1.
  pub number-within : (l : List A) (n : ℕ) (x : A) → nth l n ≡ some x → (1 ≤ n) × (n ≤ length l)
  unfolding nth
  number-within l zero x e = absurd (none-ne-some x e)
  number-within l (suc i) x e = (omega arith, index_below l i x e)

  -- Whether there is none, at an index of the list or just past it.
  pub none-past : (l : List A) (i : ℕ) → i ≤ length l → is_none (get_elem? l i) ≡ eqb i (length l)
  unfolding is_none
  none-past [] i h = sym (eq-eqb i 0 (omega arith))
  none-past (x ∷ l) zero h = sym (eqb-zero-suc (length l))
  none-past (x ∷ l) (suc i) h = none-past l i (omega arith) ∙ sym (eqb-suc-suc i (length l))

  pub drop-set : (l : List A) (i : ℕ) (x : A) → i < length l → drop i (set l i x) ≡ x ∷ drop (suc i) l
  drop-set l i x h =
      drop-cons (set l i x) i x (lt-length-set l i x h)
      ∙ ap₂ (λ (a : A) (t : List A). a ∷ t) (get_or-set_same l i x x h) (drop-set-lt (suc i) l i x (omega arith))

-- What holds at each place before i and at i holds at each before the next.
pub before-next : (P : ℕ → Type 0) (i : ℕ) → ((j : ℕ) → j < i → P j) → P i → (j : ℕ) → j < i + 1 → P j
before-next P i before here j lt = go (dec_lt j i)
  where
    go : Dec (j < i) → P j
    go (yes low) = before j low
    go (no high) =
        let same : i ≡ j = omega arith in
        subst P same here
