-- What computed tests say: `&&`, `||`, a choice, a step that may fail, a test of every element. By cases, and by induction on the list.
-- Assumes nothing.
use Rattle.model.specs.Words.{All, and_then, every}
use Rattle.std.specs.Prelude.{ℕ, ◌≤◌, ◌≡◌, Bool, true, false, cond, ◌&&◌, ◌||◌}
use Rattle.std.proofs.Common.{zero-le, ◌∙◌, true≢false, le_refl, arith}
use Rattle.std.proofs.Math.Path.{refl, sym, ap}
use Rattle.std.proofs.Math.Bool.{and-eq-true_iff, and_assoc}
use mathlib.Core.List.{List, [], ◌∷◌, ◌++◌}
use Rattle.std.proofs.Math.Option.{Option, none, some, none-ne-some}

pub and_both : (a b : Bool) → (a && b) ≡ true → (a ≡ true) × (b ≡ true)
and_both a b e = (and-eq-true_iff a b).0 e

pub both-and : {a b : Bool} → a ≡ true → b ≡ true → (a && b) ≡ true
both-and {a} {b} p q = rw (p, q)

pub or-neither : (a b : Bool) → (a || b) ≡ false → (a ≡ false) × (b ≡ false)
or-neither true b e = absurd (true≢false e)
or-neither false b e = (refl, e)

-- One of two, and which.
pub or_left : (a b : Bool) → (a || b) ≡ true → b ≡ false → a ≡ true
or_left true b e f = refl
or_left false b e f = absurd (true≢false (sym e ∙ f))

pub or_right : (a b : Bool) → (a || b) ≡ true → a ≡ false → b ≡ true
or_right true b e f = absurd (true≢false f)
or_right false b e f = e

-- A choice between numbers: within a bound where both are, and 0 only by its first branch.
pub cond-at-most : (b : Bool) {x y k : ℕ} → x ≤ k → y ≤ k → cond b x y ≤ k
cond-at-most true h h' = h
cond-at-most false h h' = h'

pub cond-le : (b : Bool) (v : ℕ) → cond b v 0 ≤ v
cond-le b v = cond-at-most b (le_refl v) zero-le

pub cond-zero : (b : Bool) {x y : ℕ} → 1 ≤ y → cond b x y ≡ 0 → (b ≡ true) × (x ≡ 0)
cond-zero true h z = (refl, z)
cond-zero false h z = absurd (omega arith)

pub cond_same : {A : Type 0} (b : Bool) (x : A) → cond b x x ≡ x
cond_same true x = refl
cond_same false x = refl

-- What was there before going on.
pub and-then : {A B : Type 0} (o : Option A) (f : A → Option B) {b : B} → and_then o f ≡ some b → (a : A) × (o ≡ some a) × (f a ≡ some b)
and-then none f e = absurd (none-ne-some _ e)
and-then (some a) f e = (a, refl, e)

module _ {A : Type 0} (test : A → Bool) where
  pub every-all : (l : List A) → every test l ≡ true → All (λ x. test x ≡ true) l
  unfolding every
  every-all [] e = tt
  every-all (x ∷ l) e = ((and_both (test x) (every test l) e).0, every-all l (and_both (test x) (every test l) e).1)

  pub all-every : (l : List A) → All (λ x. test x ≡ true) l → every test l ≡ true
  unfolding every
  all-every [] a = refl
  all-every (x ∷ l) a = both-and a.0 (all-every l a.1)

  pub every_append : (l m : List A) → every test (l ++ m) ≡ (every test l && every test m)
  unfolding every
  every_append [] m = refl
  every_append (x ∷ l) m = ap (λ (b : Bool). test x && b) (every_append l m) ∙ sym (and_assoc (test x) (every test l) (every test m))
