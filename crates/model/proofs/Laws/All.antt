-- What holds of each element of lists joined, mapped or reversed, and of one of them, by membership or index.
-- By induction on the list. Assumes nothing.
use Rattle.model.specs.Words.{All, filter}
use Rattle.std.specs.Prelude.{ℕ, zero, suc, ◌<◌, ◌≡◌, refl, Bool, true, false, cond, length, get_or}
use Rattle.std.proofs.Common.{subst, sym, arith}
use mathlib.Core.List.{List, [], ◌∷◌, ◌++◌, map, reverse, reverse_aux, Memᴰ}
use Rattle.std.proofs.Math.Option.{some, none-ne-some, some-injective}
use Rattle.std.proofs.Math.ListN.{get_elem?}

pub member-at : {A : Type 0} (l : List A) (i : ℕ) {x : A} → get_elem? l i ≡ some x → Memᴰ x l
member-at [] i e = absurd (none-ne-some _ e)
member-at (y ∷ l) zero e = Memᴰ.head (sym (some-injective _ _ e))
member-at (y ∷ l) (suc i) e = Memᴰ.tail (member-at l i e)

module _ {A : Type 0} (P : A → Type 0) where
  pub all_append : (l m : List A) → All P l → All P m → All P (l ++ m)
  all_append [] m a b = b
  all_append (x ∷ l) m a b = (a.0, all_append l m a.1 b)

  pub append-all : (l m : List A) → All P (l ++ m) → All P l × All P m
  append-all [] m a = (tt, a)
  append-all (x ∷ l) m a = ((a.0, (append-all l m a.1).0), (append-all l m a.1).1)

  reverse_aux-all : (l m : List A) → All P l → All P m → All P (reverse_aux l m)
  reverse_aux-all [] m a b = b
  reverse_aux-all (x ∷ l) m a b = reverse_aux-all l (x ∷ m) a.1 (a.0, b)

  pub reverse-all : (l : List A) → All P l → All P (reverse l)
  reverse-all l a = reverse_aux-all l [] a tt

  pub all-member : {x : A} {l : List A} → All P l → Memᴰ x l → P x
  all-member a (Memᴰ.head e) = subst P (sym e) a.0
  all-member a (Memᴰ.tail m) = all-member a.1 m

  pub all-at : (l : List A) (i : ℕ) (x : A) → All P l → get_elem? l i ≡ some x → P x
  all-at l i x a e = all-member a (member-at l i e)

  pub all_get_d : (l : List A) (i : ℕ) (d : A) → All P l → i < length l → P (get_or l i d)
  all_get_d [] i d a h = absurd (omega arith)
  all_get_d (x ∷ l) zero d a h = a.0
  all_get_d (x ∷ l) (suc i) d a h = all_get_d l i d a.1 (omega arith)

  pub member-all : (l : List A) → ((x : A) → Memᴰ x l → P x) → All P l
  member-all [] h = tt
  member-all (x ∷ l) h = (h x (Memᴰ.head refl), member-all l (λ y m. h y (Memᴰ.tail m)))

  pub map-all : {B : Type 0} (f : B → A) (l : List B) → All (λ b. P (f b)) l → All P (map f l)
  map-all f [] a = tt
  map-all f (x ∷ l) a = (a.0, map-all f l a.1)

  pub all_map : {B : Type 0} (f : B → A) (l : List B) → All P (map f l) → All (λ b. P (f b)) l
  all_map f [] a = tt
  all_map f (x ∷ l) a = (a.0, all_map f l a.1)

-- What a test finds.
pub filter-all : {A : Type 0} (P : A → Type 0) (test : A → Bool) (l : List A) → All P l → All (λ x. P x × (test x ≡ true)) (filter test l)
unfolding filter
filter-all P test [] a = tt
filter-all P test (x ∷ l) a = go (test x) refl (filter-all P test l a.1)
  where
    go : (b : Bool) → test x ≡ b → All (λ x. P x × (test x ≡ true)) (filter test l) → All (λ x. P x × (test x ≡ true)) (cond b (x ∷ filter test l) (filter test l))
    go true e r = ((a.0, e), r)
    go false e r = r

pub all-imp : {A : Type 0} {P Q : A → Type 0} (l : List A) → ((x : A) → P x → Q x) → All P l → All Q l
all-imp [] h a = tt
all-imp (x ∷ l) h a = (h x a.0, all-imp l h a.1)

pub all-imp₂ : {A : Type 0} {P Q R : A → Type 0} (l : List A) → ((x : A) → P x → Q x → R x) → All P l → All Q l → All R l
all-imp₂ [] h a b = tt
all-imp₂ (x ∷ l) h a b = (h x a.0 b.0, all-imp₂ l h a.1 b.1)
