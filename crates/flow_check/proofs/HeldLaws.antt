-- Held flows beside the others: each number is held once exactly when each held slot is the first that holds its number, so that a
-- slot after the other can be judged. By induction on the slots. Assumes nothing.
use Prim.Native.Nat.{ℕ, zero, suc, ◌+◌, ◌≤◌, ◌<◌}
use mathlib.Core.Path.{◌≡◌, refl, sym, ap, ◌∙◌}
use mathlib.Core.Bool.{Bool, true, false, cond, ◌&&◌, true≢false, false≢true}
use mathlib.Core.List.{List, [], ◌∷◌}
use mathlib.Core.Option.{none, some}
use native.Mathlib.Nat.{zero-add}
use native.Mathlib.Omega.{arith}
use borrow.Author.Tests.{ltb-true, ltb-false, eqb-true, eq-eqb, leb-true, le-leb}
use lib.ListN.{length, get_or, get_or-eq_default}
use lib.Dec.{leb, ltb, eqb}
use Rattle.model.specs.Words.{All, every, first_index}
use Rattle.model.proofs.Laws.Slot.{held_at}
use Rattle.model.specs.Total.{total}
use Rattle.model.specs.Orders.{Flow}
use Rattle.model.specs.QueueTable.{Table}
use Rattle.model.specs.Reference.{Slot, held_flows, with_number, holds}
use Rattle.model.specs.Consistent.{flow_in_range}
use Rattle.model.proofs.Laws.Test.{and_both, both-and, every-all, all-every}
use Rattle.flow_check.specs.View.{flow_alone, slot_alone}

module _ (n : ℕ) where
  with-slot : (x : Slot) (l : List Slot) → with_number n (held_flows (x ∷ l)) ≡ cond (holds n x) 1 0 + with_number n (held_flows l)
  unfolding with_number held_flows holds total
  with-slot none l = sym (zero-add (with_number n (held_flows l)))
  with-slot (some f) l = refl

  none-with : (l : List Slot) → ((j : ℕ) → holds n (get_or l j none) ≡ true → ⊥) → with_number n (held_flows l) ≡ 0
  unfolding with_number held_flows total
  none-with [] h = refl
  none-with (x ∷ l) h = go (holds n x) refl (with-slot x l) (none-with l (λ j. h (suc j)))
    where
      go : (b : Bool) → holds n x ≡ b → with_number n (held_flows (x ∷ l)) ≡ cond (holds n x) 1 0 + with_number n (held_flows l)
          → with_number n (held_flows l) ≡ 0 → with_number n (held_flows (x ∷ l)) ≡ 0
      go true e w r = absurd (h 0 e)
      go false e w r = w ∙ rw (e, r)

  -- A number that only slot k can hold.
  once-with : (k : ℕ) (l : List Slot) → ((j : ℕ) → holds n (get_or l j none) ≡ true → j ≡ k) → with_number n (held_flows l) ≤ 1
  unfolding with_number held_flows total
  once-with k [] h = omega arith
  once-with zero (x ∷ l) h = go (holds n x) (with-slot x l) (none-with l (λ j e. absurd (omega (arith, h (suc j) e))))
    where
      go : (b : Bool) → with_number n (held_flows (x ∷ l)) ≡ cond b 1 0 + with_number n (held_flows l)
          → with_number n (held_flows l) ≡ 0 → with_number n (held_flows (x ∷ l)) ≤ 1
      go true w r = omega arith
      go false w r = omega arith
  once-with (suc k) (x ∷ l) h = go (holds n x) refl (with-slot x l) (once-with k l (λ j e. omega (arith, h (suc j) e)))
    where
      go : (b : Bool) → holds n x ≡ b → with_number n (held_flows (x ∷ l)) ≡ cond b 1 0 + with_number n (held_flows l)
          → with_number n (held_flows l) ≤ 1 → with_number n (held_flows (x ∷ l)) ≤ 1
      go true e w r = absurd (omega (arith, h 0 e))
      go false e w r = omega arith

  -- A slot that holds it is the first to, where it is held once.
  with-once : (l : List Slot) (i : ℕ) → holds n (get_or l i none) ≡ true
      → (1 ≤ with_number n (held_flows l)) × (with_number n (held_flows l) ≤ 1 → first_index (holds n) l ≡ i)
  unfolding first_index holds
  with-once [] i e = absurd (false≢true e)
  with-once (x ∷ l) zero e = go (holds n x) e (with-slot x l)
    where
      go : (b : Bool) → b ≡ true → with_number n (held_flows (x ∷ l)) ≡ cond b 1 0 + with_number n (held_flows l)
          → (1 ≤ with_number n (held_flows (x ∷ l))) × (with_number n (held_flows (x ∷ l)) ≤ 1 → cond b 0 (suc (first_index (holds n) l)) ≡ 0)
      go true e w = (omega arith, λ _. refl)
      go false e w = absurd (false≢true e)
  with-once (x ∷ l) (suc i) e = go (holds n x) (with-slot x l) (with-once l i e)
    where
      go : (b : Bool) → with_number n (held_flows (x ∷ l)) ≡ cond b 1 0 + with_number n (held_flows l)
          → (1 ≤ with_number n (held_flows l)) × (with_number n (held_flows l) ≤ 1 → first_index (holds n) l ≡ i)
          → (1 ≤ with_number n (held_flows (x ∷ l))) × (with_number n (held_flows (x ∷ l)) ≤ 1 → cond b 0 (suc (first_index (holds n) l)) ≡ suc i)
      go true w r = (omega arith, λ h. absurd (omega (arith, r.0)))
      go false w r = (omega (arith, r.0), λ h. ap suc (r.1 (omega arith)))

-- The held flows are those of the slots.
held_all : (P : Flow → Type 0) (l : List Slot) → ((j : ℕ) (f : Flow) → get_or l j none ≡ some f → P f) → All P (held_flows l)
unfolding held_flows
held_all P [] h = tt
held_all P (none ∷ l) h = held_all P l (λ j. h (suc j))
held_all P (some f ∷ l) h = (h 0 f refl, held_all P l (λ j. h (suc j)))

module _ (t : Table) (slots : List Slot) where
  -- The slots one by one, and the held flows beside each other.
  all-alone : ((j : ℕ) → slot_alone t slots j (get_or slots j none) ≡ true) → every (flow_alone t (held_flows slots)) (held_flows slots) ≡ true
  unfolding slot_alone flow_alone holds
  all-alone h = all-every (flow_alone t (held_flows slots)) (held_flows slots) (held_all (λ f. flow_alone t (held_flows slots) f ≡ true) slots one)
    where
      first : (j : ℕ) (x : Slot) → slot_alone t slots j x ≡ true → (n : ℕ) → holds n x ≡ true → j ≡ first_index (holds n) slots
      first j none a n e = absurd (false≢true e)
      first j (some f) a n e =
          let own = (and_both (flow_in_range f) _ (and_both (flow_in_range f && eqb (first_index (holds f.number) slots) j) _ a).0).1 in
          sym (eqb-true _ j own) ∙ ap (λ (m : ℕ). first_index (holds m) slots) (eqb-true f.number n e)

      one : (j : ℕ) (f : Flow) → get_or slots j none ≡ some f → flow_alone t (held_flows slots) f ≡ true
      one j f e =
          let a : slot_alone t slots j (some f) ≡ true = sym (ap (slot_alone t slots j) e) ∙ h j in
          let both = and_both (flow_in_range f && eqb (first_index (holds f.number) slots) j) _ a in
          let once = once-with f.number (first_index (holds f.number) slots) slots (λ k. first k (get_or slots k none) (h k) f.number) in
          both-and (both-and (and_both (flow_in_range f) _ both.0).0 (le-leb _ 1 once)) both.1

  pub slots-alone : ((j : ℕ) → j < length slots → slot_alone t slots j (get_or slots j none) ≡ true)
      → every (flow_alone t (held_flows slots)) (held_flows slots) ≡ true
  unfolding slot_alone
  slots-alone h = all-alone (λ j. go j (ltb j (length slots)) refl)
    where
      go : (j : ℕ) (b : Bool) → ltb j (length slots) ≡ b → slot_alone t slots j (get_or slots j none) ≡ true
      go j true e = h j (ltb-true _ _ e)
      go j false e = ap (slot_alone t slots j) (get_or-eq_default slots none {n = j} (ltb-false _ _ e))

  alone-each : every (flow_alone t (held_flows slots)) (held_flows slots) ≡ true → (j : ℕ) → slot_alone t slots j (get_or slots j none) ≡ true
  unfolding slot_alone flow_alone holds
  alone-each a j = go (get_or slots j none) refl
    where
      go : (x : Slot) → get_or slots j none ≡ x → slot_alone t slots j x ≡ true
      go none e = refl
      go (some f) e =
          let alone = held_at (λ g. flow_alone t (held_flows slots) g ≡ true) slots j (every-all (flow_alone t (held_flows slots)) (held_flows slots) a) e in
          let both = and_both (flow_in_range f && leb (with_number f.number (held_flows slots)) 1) _ alone in
          let parts = and_both (flow_in_range f) _ both.0 in
          let here : holds f.number (get_or slots j none) ≡ true = ap (holds f.number) e ∙ eq-eqb f.number f.number refl in
          both-and (both-and parts.0 (eq-eqb _ j ((with-once f.number slots j here).1 (leb-true _ 1 parts.1)))) both.1

  -- One slot that fails.
  pub not-alone : (j : ℕ) → slot_alone t slots j (get_or slots j none) ≡ false → every (flow_alone t (held_flows slots)) (held_flows slots) ≡ false
  not-alone j e = go (every (flow_alone t (held_flows slots)) (held_flows slots)) refl
    where
      go : (b : Bool) → every (flow_alone t (held_flows slots)) (held_flows slots) ≡ b → b ≡ false
      go true a = absurd (true≢false (sym (alone-each a j) ∙ e))
      go false a = refl
