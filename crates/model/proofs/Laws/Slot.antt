-- Slots: the first one that a test finds, the held flows when a slot is filled or emptied, and the one in a slot. By induction on the slots. Assumes nothing.
use Prim.Native.Nat.{ℕ, zero, suc, ◌+◌, ◌≤◌, ◌<◌}
use Rattle.std.specs.Prelude.{◌≡◌, Bool, ◌&&◌, get_or, set, leb, ltb, eqb}
use Rattle.std.proofs.Math.Path.{refl}
use Rattle.std.proofs.Common.{sym, ap, subst, ◌∙◌, true≢false, zero-add, not-suc-le-zero, lt-ltb, le-leb, eq-eqb, get_or-set_same, set-set}
use Rattle.std.proofs.Math.Bool.{true, false, cond, not}
use Rattle.std.proofs.lemmas.Bool.{false≢true}
use mathlib.Core.List.Permᴰ
use mathlib.Core.List.{List, [], ◌∷◌, Permᴰ}
use Rattle.std.proofs.Math.Option.{none, some, none-ne-some, some-injective}
use native.Mathlib.Omega.{arith}
use Rattle.std.proofs.Math.ListN.{length}
use Rattle.std.proofs.Math.Dec.{leb-suc-suc}
use Rattle.model.specs.Words.{All, every, first_index, is_none}
use Rattle.model.specs.Total.{total}
use Rattle.model.specs.Part.{Part, empty, skip, keep}
use Rattle.model.proofs.Laws.Part.{part-refl}
use Rattle.model.specs.Orders.{Flow}
use Rattle.model.specs.Reference.{Slot, held_flows, with_number, is_held, holds}

module _ {A : Type 0} (test : A → Bool) where
  -- The test finds one.
  pub index_below : (l : List A) → every (λ x. not (test x)) l ≡ false → first_index test l < length l
  unfolding every first_index
  index_below [] e = absurd (true≢false e)
  index_below (x ∷ l) e = go (test x) (index_below l) e
    where
      go : (b : Bool) → (every (λ x. not (test x)) l ≡ false → first_index test l < length l)
          → (not b && every (λ x. not (test x)) l) ≡ false
          → cond b 0 (suc (first_index test l)) < suc (length l)
      go true r e = omega arith
      go false r e = omega (arith, r e)

module _ {A : Type 0} (test : A → Bool) (d : A) where
  -- It passes, and those before it don't.
  pub index-found : (l : List A) → first_index test l < length l → test (get_or l (first_index test l) d) ≡ true
  unfolding first_index
  index-found [] h = absurd (not-suc-le-zero h)
  index-found (x ∷ l) h = go (test x) refl (index-found l) h
    where
      go : (b : Bool) → test x ≡ b → (first_index test l < length l → test (get_or l (first_index test l) d) ≡ true)
          → cond b 0 (suc (first_index test l)) < suc (length l)
          → test (get_or (x ∷ l) (cond b 0 (suc (first_index test l))) d) ≡ true
      go true e r h = e
      go false e r h = r (omega arith)

  pub index-first : (l : List A) (j : ℕ) → j < first_index test l → test (get_or l j d) ≡ false
  unfolding first_index
  index-first [] j h = absurd (not-suc-le-zero h)
  index-first (x ∷ l) zero h = go (test x) refl h
    where
      go : (b : Bool) → test x ≡ b → 0 < cond b 0 (suc (first_index test l)) → test x ≡ false
      go true e h = absurd (not-suc-le-zero h)
      go false e h = e
  index-first (x ∷ l) (suc j) h = go (test x) (index-first l j) h
    where
      go : (b : Bool) → (j < first_index test l → test (get_or l j d) ≡ false) → suc j < cond b 0 (suc (first_index test l))
          → test (get_or l j d) ≡ false
      go true r h = absurd (not-suc-le-zero h)
      go false r h = r (omega arith)

-- How many flows are held.
pub held-length : (slots : List Slot) → length (held_flows slots) ≤ length slots
unfolding held_flows
held-length [] = omega arith
held-length (none ∷ slots) = omega (arith, held-length slots)
held-length (some f ∷ slots) = omega (arith, held-length slots)

pub all_held : (slots : List Slot) → every is_held slots ≡ true → length (held_flows slots) ≡ length slots
unfolding held_flows every is_held is_none
all_held [] e = refl
all_held (none ∷ slots) e = absurd (false≢true e)
all_held (some f ∷ slots) e = omega (arith, all_held slots e)

pub not-all-held : (slots : List Slot) → every is_held slots ≡ false → length (held_flows slots) < length slots
unfolding held_flows every is_held is_none
not-all-held [] e = absurd (true≢false e)
not-all-held (none ∷ slots) e = omega (arith, held-length slots)
not-all-held (some f ∷ slots) e = omega (arith, not-all-held slots e)

-- A held number stands in a slot.
pub number-found : (n : ℕ) (slots : List Slot) → 1 ≤ with_number n (held_flows slots) → every (λ s. not (holds n s)) slots ≡ false
unfolding held_flows every holds with_number total
number-found n [] h = absurd (not-suc-le-zero h)
number-found n (none ∷ slots) h = number-found n slots h
number-found n (some f ∷ slots) h = go (eqb f.number n) (number-found n slots) h
  where
    go : (b : Bool) → (1 ≤ with_number n (held_flows slots) → every (λ s. not (holds n s)) slots ≡ false)
        → 1 ≤ cond b 1 0 + with_number n (held_flows slots)
        → (not b && every (λ s. not (holds n s)) slots) ≡ false
    go true r h = refl
    go false r h = r (omega arith)

-- The lowest free slot filled: one flow more. Any slot emptied: a part.
pub fill-perm : (f : Flow) (slots : List Slot) → every is_held slots ≡ false
    → Permᴰ (held_flows (set slots (first_index is_none slots) (some f))) (f ∷ held_flows slots)
unfolding held_flows every is_held is_none first_index
fill-perm f [] e = absurd (true≢false e)
fill-perm f (none ∷ slots) e = Permᴰ.refl (f ∷ held_flows slots)
fill-perm f (some g ∷ slots) e = Permᴰ.trans (Permᴰ.cons refl (fill-perm f slots e)) (Permᴰ.swap refl refl)

pub clear-part : (slots : List Slot) (i : ℕ) → Part (held_flows (set slots i none)) (held_flows slots)
unfolding held_flows
clear-part [] i = empty
clear-part (none ∷ slots) zero = part-refl (held_flows slots)
clear-part (some f ∷ slots) zero = skip (part-refl (held_flows slots))
clear-part (none ∷ slots) (suc i) = clear-part slots i
clear-part (some f ∷ slots) (suc i) = keep (clear-part slots i)

-- A number is held where the first slot that holds it is one of the slots; all are held where the first free one isn't.
pub number-index : (n : ℕ) (slots : List Slot) → leb 1 (with_number n (held_flows slots)) ≡ ltb (first_index (holds n) slots) (length slots)
unfolding held_flows first_index holds with_number total
number-index n [] = refl
number-index n (none ∷ slots) = number-index n slots ∙ sym (leb-suc-suc (suc (first_index (holds n) slots)) (length slots))
number-index n (some f ∷ slots) = go (eqb f.number n) (number-index n slots)
  where
    go : (b : Bool) → leb 1 (with_number n (held_flows slots)) ≡ ltb (first_index (holds n) slots) (length slots)
        → leb 1 (cond b 1 0 + with_number n (held_flows slots)) ≡ ltb (cond b 0 (suc (first_index (holds n) slots))) (suc (length slots))
    go true r = le-leb 1 (1 + with_number n (held_flows slots)) (omega arith) ∙ sym (lt-ltb 0 (suc (length slots)) (omega arith))
    go false r = rw (zero-add (with_number n (held_flows slots))) (r ∙ sym (leb-suc-suc (suc (first_index (holds n) slots)) (length slots)))

pub held-index : (slots : List Slot) → every is_held slots ≡ not (ltb (first_index is_none slots) (length slots))
unfolding every is_held is_none first_index
held-index [] = refl
held-index (none ∷ slots) = sym (ap not (lt-ltb 0 (suc (length slots)) (omega arith)))
held-index (some f ∷ slots) = held-index slots ∙ sym (ap not (leb-suc-suc (suc (first_index is_none slots)) (length slots)))

-- What holds of each held flow holds of the one in a slot.
pub held_at : (P : Flow → Type 0) (slots : List Slot) (i : ℕ) {f : Flow} → All P (held_flows slots) → get_or slots i none ≡ some f → P f
unfolding held_flows
held_at P [] i a e = absurd (none-ne-some _ e)
held_at P (none ∷ slots) zero a e = absurd (none-ne-some _ e)
held_at P (none ∷ slots) (suc i) a e = held_at P slots i a e
held_at P (some g ∷ slots) zero a e = subst P (some-injective _ _ e) a.0
held_at P (some g ∷ slots) (suc i) a e = held_at P slots i a.1 e

pub held-inside : (slots : List Slot) (i : ℕ) {f : Flow} → get_or slots i none ≡ some f → i < length slots
held-inside [] i e = absurd (none-ne-some _ e)
held-inside (x ∷ slots) zero e = omega arith
held-inside (x ∷ slots) (suc i) e = omega (arith, held-inside slots i e)

-- That one, and those in the other slots.
pub held-perm : (slots : List Slot) (i : ℕ) {f : Flow} → get_or slots i none ≡ some f → Permᴰ (held_flows slots) (f ∷ held_flows (set slots i none))
unfolding held_flows
held-perm [] i e = absurd (none-ne-some _ e)
held-perm (none ∷ slots) zero e = absurd (none-ne-some _ e)
held-perm (none ∷ slots) (suc i) e = held-perm slots i e
held-perm (some g ∷ slots) zero e = Permᴰ.cons (some-injective _ _ e) (Permᴰ.refl (held_flows slots))
held-perm (some g ∷ slots) (suc i) e = Permᴰ.trans (Permᴰ.cons refl (held-perm slots i e)) (Permᴰ.swap refl refl)

-- A slot with another flow in it.
pub put-perm : (slots : List Slot) (i : ℕ) (f : Flow) → i < length slots → Permᴰ (held_flows (set slots i (some f))) (f ∷ held_flows (set slots i none))
put-perm slots i f h =
    subst (λ l. Permᴰ (held_flows (set slots i (some f))) (f ∷ held_flows l)) (set-set slots i (some f) none)
    (held-perm (set slots i (some f)) i (get_or-set_same slots i (some f) none h))

-- Where no other slot holds a number, its slot is the first that does.
pub index-only : (n : ℕ) (slots : List Slot) (i : ℕ) {f : Flow} → get_or slots i none ≡ some f → f.number ≡ n → with_number n (held_flows (set slots i none)) ≡ 0
    → first_index (holds n) slots ≡ i
unfolding held_flows first_index holds with_number total
index-only n [] i e own z = absurd (none-ne-some _ e)
index-only n (none ∷ slots) zero e own z = absurd (none-ne-some _ e)
index-only n (none ∷ slots) (suc i) e own z = ap suc (index-only n slots i e own z)
index-only n (some g ∷ slots) zero e own z = rw (eq-eqb g.number n (ap (λ (f : Flow). f.number) (some-injective _ _ e) ∙ own))
index-only n (some g ∷ slots) (suc i) e own z = go (eqb g.number n) (λ z. index-only n slots i e own z) z
  where
    go : (b : Bool) → (with_number n (held_flows (set slots i none)) ≡ 0 → first_index (holds n) slots ≡ i)
        → cond b 1 0 + with_number n (held_flows (set slots i none)) ≡ 0
        → cond b 0 (suc (first_index (holds n) slots)) ≡ suc i
    go true r z = absurd (omega (arith, z))
    go false r z = ap suc (r (omega (arith, z)))
