-- Laws of a part of a list, over any element type: its length, what holds of each element, its map. Another order of a list is a part of it. By induction on the part.
-- Assumes nothing.
use Rattle.std.specs.Prelude.{◌≤◌, length}
use Rattle.std.proofs.Common.{zero-le, ap, subst, le_trans, arith}
use mathlib.Core.List.{List, [], ◌∷◌, map, Permᴰ}
use Rattle.model.specs.Words.{All}
use Rattle.model.specs.Part.{Part, empty, skip, keep, swap, both}

module _ {A : Type 0} where
  pub part-refl : (l : List A) → Part l l
  part-refl [] = empty
  part-refl (x ∷ l) = keep (part-refl l)

  pub perm-part : {l m : List A} → Permᴰ l m → Part l m
  perm-part Permᴰ.nil = empty
  perm-part (Permᴰ.cons {a} {l₁ = l} {l₂ = m} e p) = subst (λ (x : A). Part (a ∷ l) (x ∷ m)) e (keep (perm-part p))
  perm-part (Permᴰ.swap {a} {b} {a'} {l = l} e₁ e₂) =
      subst (λ (y : A). Part (a ∷ b ∷ l) (a' ∷ y ∷ l)) e₁ (subst (λ (x : A). Part (a ∷ b ∷ l) (x ∷ a ∷ l)) e₂ swap)
  perm-part (Permᴰ.trans p q) = both (perm-part p) (perm-part q)

  pub part-map : {B : Type 0} (f : A → B) {l m : List A} → Part l m → Part (map f l) (map f m)
  part-map f empty = empty
  part-map f (skip p) = skip (part-map f p)
  part-map f (keep p) = keep (part-map f p)
  part-map f swap = swap
  part-map f (both p q) = both (part-map f p) (part-map f q)

  pub perm-map : {B : Type 0} (f : A → B) {l m : List A} → Permᴰ l m → Permᴰ (map f l) (map f m)
  perm-map f Permᴰ.nil = Permᴰ.nil
  perm-map f (Permᴰ.cons e p) = Permᴰ.cons (ap f e) (perm-map f p)
  perm-map f (Permᴰ.swap e₁ e₂) = Permᴰ.swap (ap f e₁) (ap f e₂)
  perm-map f (Permᴰ.trans p q) = Permᴰ.trans (perm-map f p) (perm-map f q)

  pub length_part : {l m : List A} → Part l m → length l ≤ length m
  length_part empty = zero-le
  length_part (skip p) = omega (arith, length_part p)
  length_part (keep p) = omega (arith, length_part p)
  length_part swap = omega arith
  length_part (both p q) = le_trans (length_part p) (length_part q)

  pub all-part : (P : A → Type 0) {l m : List A} → Part l m → All P m → All P l
  all-part P empty a = tt
  all-part P (skip p) a = all-part P p a.1
  all-part P (keep p) a = (a.0, all-part P p a.1)
  all-part P swap a = (a.1.0, (a.0, a.1.1))
  all-part P (both p q) a = all-part P p (all-part P q a)
