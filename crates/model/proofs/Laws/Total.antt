-- Laws of sums and largest values over any element type and measure: of lists joined, mapped or in another order,
-- of a part, of one element, of lists or measures compared element by element. Each is an induction. Assumes nothing.
use Prim.Native.Nat.{ℕ, zero, suc, ◌+◌, ◌*◌, ◌≤◌, max, zero-le}
use Rattle.std.specs.Prelude.{◌≡◌, Bool, length, drop}
use Rattle.std.proofs.Math.Path.{refl, sym, ap, fun_ext}
use Rattle.std.proofs.Math.Bool.{true, false, cond}
use mathlib.Core.List.Permᴰ
use mathlib.Core.List.{List, [], ◌∷◌, ◌++◌, map, reverse, reverse_aux, Permᴰ}
use Rattle.std.proofs.Math.Nat.{le_trans}
use Rattle.std.proofs.Common.{zero-add}
use Rattle.std.proofs.Math.Seq.{drop-nil}
use native.Mathlib.Omega.{arith}
use Rattle.model.specs.Words.{All, Pairs, ends, pair, filter}
use Rattle.model.specs.Total.{total, largest}
use Rattle.model.specs.Part.{Part, empty, skip, keep, swap, both}
use Rattle.model.proofs.Laws.Part.{perm-part}
use Rattle.model.proofs.Laws.All.{member-all}

module _ {A : Type 0} where
  pub total-append : (f : A → ℕ) (l m : List A) → total f (l ++ m) ≡ total f l + total f m
  unfolding total
  total-append f [] m = sym (zero-add (total f m))
  total-append f (x ∷ l) m = omega (arith, total-append f l m)

  pub total-next : (f : A → ℕ) {l : List A} {x : A} {rest : List A} → l ≡ x ∷ rest → total f l ≡ f x + total f rest
  unfolding total
  total-next f e = ap (total f) e

  pub total-add : (f g : A → ℕ) (l : List A) → total (λ x. f x + g x) l ≡ total f l + total g l
  unfolding total
  total-add f g [] = refl
  total-add f g (x ∷ l) = omega (arith, total-add f g l)

  pub total_ext : (f g : A → ℕ) (l : List A) → ((x : A) → f x ≡ g x) → total f l ≡ total g l
  total_ext f g l h = ap (λ k. total k l) (fun_ext h)

  pub total-map : {B : Type 0} (g : B → A) (f : A → ℕ) (l : List B) → total f (map g l) ≡ total (λ x. f (g x)) l
  unfolding total
  total-map g f [] = refl
  total-map g f (x ∷ l) = omega (arith, total-map g f l)

  pub total-filter : (f : A → ℕ) (test : A → Bool) (l : List A) → total f (filter test l) ≡ total (λ x. cond (test x) (f x) 0) l
  unfolding filter total
  total-filter f test [] = refl
  total-filter f test (x ∷ l) = go (test x) (total-filter f test l)
    where
      go : (b : Bool) → total f (filter test l) ≡ total (λ x. cond (test x) (f x) 0) l
          → total f (cond b (x ∷ filter test l) (filter test l)) ≡ cond b (f x) 0 + total (λ x. cond (test x) (f x) 0) l
      go true e = omega arith
      go false e = omega arith

  total-reverse_aux : (f : A → ℕ) (l m : List A) → total f (reverse_aux l m) ≡ total f l + total f m
  unfolding total
  total-reverse_aux f [] m = sym (zero-add (total f m))
  total-reverse_aux f (x ∷ l) m = omega (arith, total-reverse_aux f l (x ∷ m))

  pub total-reverse : (f : A → ℕ) (l : List A) → total f (reverse l) ≡ total f l
  unfolding total
  total-reverse f l = omega (arith, total-reverse_aux f l [])

  pub largest-append : (f : A → ℕ) (l m : List A) → largest f (l ++ m) ≡ max (largest f l) (largest f m)
  unfolding largest
  largest-append f [] m = omega arith
  largest-append f (x ∷ l) m = omega (arith, largest-append f l m)

  pub largest-next : (f : A → ℕ) {l : List A} {x : A} {rest : List A} → l ≡ x ∷ rest → largest f l ≡ max (f x) (largest f rest)
  unfolding largest
  largest-next f e = ap (largest f) e

  pub largest-drop : (f : A → ℕ) (i : ℕ) (l : List A) → largest f (drop i l) ≤ largest f l
  unfolding largest
  largest-drop f i [] = rw (drop-nil i) (omega arith)
  largest-drop f zero (x ∷ l) = omega arith
  largest-drop f (suc i) (x ∷ l) = omega (arith, largest-drop f i l)

  pub total-part : (f : A → ℕ) {l m : List A} → Part l m → total f l ≤ total f m
  unfolding total
  total-part f empty = zero-le
  total-part f (skip p) = omega (arith, total-part f p)
  total-part f (keep p) = omega (arith, total-part f p)
  total-part f swap = omega arith
  total-part f (both p q) = le_trans (total-part f p) (total-part f q)

  pub total-perm : (f : A → ℕ) {l m : List A} → Permᴰ l m → total f l ≡ total f m
  total-perm f p = omega (arith, total-part f (perm-part p), total-part f (perm-part (Permᴰ.symm p)))

  pub largest-part : (f : A → ℕ) {l m : List A} → Part l m → largest f l ≤ largest f m
  unfolding largest
  largest-part f empty = zero-le
  largest-part f (skip p) = omega (arith, largest-part f p)
  largest-part f (keep p) = omega (arith, largest-part f p)
  largest-part f swap = omega arith
  largest-part f (both p q) = le_trans (largest-part f p) (largest-part f q)

  -- Where each measure is 0.
  pub total-zero : (f : A → ℕ) (l : List A) → All (λ x. f x ≡ 0) l → total f l ≡ 0
  unfolding total
  total-zero f [] z = refl
  total-zero f (x ∷ l) z = omega (arith, z.0, total-zero f l z.1)

  pub total-zeros : (l : List A) → total (λ x. 0) l ≡ 0
  total-zeros l = total-zero (λ x. 0) l (member-all (λ x. ◌≡◌ {A = ℕ} 0 0) l (λ x m. refl))

  pub total-cond : (b : Bool) (f : A → ℕ) (l : List A) → total (λ x. cond b (f x) 0) l ≡ cond b (total f l) 0
  total-cond true f l = refl
  total-cond false f l = total-zeros l

  pub largest-zero : (f : A → ℕ) (l : List A) → All (λ x. f x ≡ 0) l → largest f l ≡ 0
  unfolding largest
  largest-zero f [] z = refl
  largest-zero f (x ∷ l) z = omega (arith, z.0, largest-zero f l z.1)

  -- Two measures compared where the elements have a property.
  pub total-each : (P : A → Type 0) (f g : A → ℕ) (l : List A) → ((x : A) → P x → f x ≤ g x) → All P l → total f l ≤ total g l
  unfolding total
  total-each P f g [] h a = zero-le
  total-each P f g (x ∷ l) h a = omega (arith, h x a.0, total-each P f g l h a.1)

  pub total-below : (f g : A → ℕ) (l : List A) → ((x : A) → f x ≤ g x) → total f l ≤ total g l
  total-below f g l h = total-each (λ x. Unit {0}) f g l (λ x u. h x) (member-all (λ x. Unit {0}) l (λ x m. tt))

  pub total-same : (P : A → Type 0) (f g : A → ℕ) (l : List A) → ((x : A) → P x → f x ≡ g x) → All P l → total f l ≡ total g l
  unfolding total
  total-same P f g [] h a = refl
  total-same P f g (x ∷ l) h a = omega (arith, h x a.0, total-same P f g l h a.1)

  -- A bound for each element.
  pub total-le : (f : A → ℕ) (k : ℕ) (l : List A) → All (λ x. f x ≤ k) l → total f l ≤ length l * k
  unfolding total
  total-le f k [] a = zero-le
  total-le f k (x ∷ l) a = omega (arith, a.0, total-le f k l a.1)

  pub largest-le : (f : A → ℕ) (k : ℕ) (l : List A) → All (λ x. f x ≤ k) l → largest f l ≤ k
  unfolding largest
  largest-le f k [] a = zero-le
  largest-le f k (x ∷ l) a = omega (arith, a.0, largest-le f k l a.1)

  module _ (R : A → A → Type 0) (f : A → ℕ) (mono : (x y : A) → R x y → f x ≤ f y) where
    pub total_mono : {l m : List A} → Pairs R l m → total f l ≤ total f m
    unfolding total
    total_mono ends = zero-le
    total_mono (pair {x = x} {y = y} r p) = omega (arith, mono x y r, total_mono p)

    pub largest-mono : {l m : List A} → Pairs R l m → largest f l ≤ largest f m
    unfolding largest
    largest-mono ends = zero-le
    largest-mono (pair {x = x} {y = y} r p) = omega (arith, mono x y r, largest-mono p)
