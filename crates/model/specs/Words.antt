-- General words over lists and options.
use Rattle.std.specs.Prelude.{ℕ, zero, suc, Bool, true, false, cond, ◌&&◌, List, [], ◌∷◌, ◌++◌}
use Rattle.std.proofs.Math.Option.{Option, none, some}
use Rattle.std.proofs.Math.ListN.{get_elem?}

-- Each element of a list has the property.
abbrev pub All : {A : Type 0} → (A → Type 0) → List A → Type 0
All P [] = Unit {0}
All P (x ∷ xs) = P x × All P xs

-- Two lists of the same length, compared element by element.
pub data Pairs {A B : Type 0} (R : A → B → Type 0) : List A → List B → Type 0 where
  ends : Pairs R [] []
  pair : {x : A} {y : B} {l : List A} {m : List B} → R x y → Pairs R l m → Pairs R (x ∷ l) (y ∷ m)

unfoldable pub every : {A : Type 0} → (A → Bool) → List A → Bool
every test [] = true
every test (x ∷ xs) = test x && every test xs

unfoldable pub is_none : {A : Type 0} → Option A → Bool
is_none none = true
is_none (some a) = false

-- The elements that the test finds, in their order.
unfoldable pub filter : {A : Type 0} → (A → Bool) → List A → List A
filter test [] = []
filter test (x ∷ xs) = cond (test x) (x ∷ filter test xs) (filter test xs)

-- The index of the first element that the test finds, the length where it finds none.
unfoldable pub first_index : {A : Type 0} → (A → Bool) → List A → ℕ
first_index test [] = 0
first_index test (x ∷ xs) = cond (test x) 0 (suc (first_index test xs))

-- Go on with the value, where there is one.
abbrev pub and_then : {A B : Type 0} → Option A → (A → Option B) → Option B
and_then none f = none
and_then (some a) f = f a

-- The element with this number, counted from 1; none where there is none.
unfoldable pub nth : {A : Type 0} → List A → ℕ → Option A
nth l zero = none
nth l (suc i) = get_elem? l i

-- What is written for each element, one after the other.
unfoldable pub joined : {A : Type 0} → (A → List ℕ) → List A → List ℕ
joined text [] = []
joined text (x ∷ xs) = text x ++ joined text xs
