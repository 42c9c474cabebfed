-- A scan of the slots by a test. What is found from slot i on, the slots before it passed, stays the same.
-- Assumes nothing.
use Rattle.std.proofs.Common.{◌≡◌, ℕ, zero, suc, ◌+◌, ◌-◌, ◌<◌, ◌≤◌, Bool, true, false, cond, not, ◌&&◌, eqb, List, length, get_or, sym, refl, ap, ◌∙◌, add-zero, zero-add, add-one, arith, ne_eqb}
use mathlib.Core.Bool.{and-true, and-false}
use mathlib.Core.Option.{none, some}
use native.Mathlib.Decide.{dec_lt}
use Rattle.model.specs.Words.{first_index, is_none}
use Rattle.model.specs.Sizes.{slot_count}
use Rattle.model.specs.Orders.{Flow}
use Rattle.model.specs.Reference.{Slot, holds}
use Rattle.bit_words.specs.View.{is_set, LeastClear}
use Rattle.flow_store.specs.View.{slot_words, OthersFrom, number_at, flow_at, flow_in, slot_of, slot_in, slots_from, slots_of}

-- What the two tests say of slot i.
abbrev pub named : (number : ℕ) (bits store : List ℕ) (i : ℕ) → Bool
named number bits store i = eqb (number_at store i) number && is_set bits i

pub holds_named : (number : ℕ) (bits store : List ℕ) (i : ℕ) → holds number (slot_in bits store i) ≡ named number bits store i
unfolding slot_of flow_at holds
holds_named number bits store i = go (is_set bits i) (flow_in store i)
  where
    go : (b : Bool) (f : Flow) → holds number (cond b (some f) none) ≡ (eqb f.number number && b)
    go true f = sym (and-true (eqb f.number number))
    go false f = sym (and-false (eqb f.number number))

none_free : (bits store : List ℕ) (i : ℕ) → is_none (slot_in bits store i) ≡ not (is_set bits i)
unfolding slot_of is_none
none_free bits store i = go (is_set bits i) (flow_in store i)
  where
    go : (b : Bool) (f : Flow) → is_none (cond b (some f) none) ≡ not b
    go true f = refl
    go false f = refl

module _ (test : Slot → Bool) (bits store : List ℕ) where
  -- The first index from slot i on that the test finds.
  abbrev pub found : ℕ → ℕ
  found i = i + first_index test (slots_from (slot_count - i) i bits store)

  pub scan-whole : found 0 ≡ first_index test (slots_of bits store)
  unfolding slots_of
  scan-whole = zero-add (first_index test (slots_from slot_count 0 bits store))

  module _ (seen : ℕ → Bool) (sees : (i : ℕ) → test (slot_in bits store i) ≡ seen i) where
    turn : (n i : ℕ) → first_index test (slots_from (suc n) i bits store) ≡ cond (seen i) 0 (suc (first_index test (slots_from n (suc i) bits store)))
    unfolding first_index slots_from
    turn n i = rw (sees i)

    pub scan-found : (i : ℕ) → i < slot_count → seen i ≡ true → found i ≡ i
    scan-found i h e =
        let m : slot_count - i ≡ suc (slot_count - suc i) = omega arith in
        rw (m, turn (slot_count - suc i) i, e) (add-zero i)

    pub scan-on : (i : ℕ) → i < slot_count → seen i ≡ false → found i ≡ found (i + 1)
    scan-on i h e =
        let m : slot_count - i ≡ suc (slot_count - suc i) = omega arith in
        let k : slot_count - (i + 1) ≡ slot_count - suc i = omega arith in
        let j : i + 1 ≡ suc i = omega arith in
        rw (m, turn (slot_count - suc i) i, e, k, j) (omega arith)

    pub scan-end : (i : ℕ) → i ≡ slot_count → found i ≡ i
    unfolding first_index slots_from
    scan-end i e = rw e

    -- The slots before slot i have been passed.
    pub scan-past : (i : ℕ) → i ≤ slot_count → ((j : ℕ) → j < i → seen j ≡ false) → found i ≡ found 0
    scan-past zero h passed = refl
    scan-past (suc i) h passed =
        ap found (sym (add-one i)) ∙ sym (scan-on i (omega arith) (passed i (omega arith))) ∙ scan-past i (omega arith) (λ j lt. passed j (omega arith))

-- The least clear bit is the lowest free slot.
module _ (bits store : List ℕ) (i : ℕ) (long : length bits ≡ slot_words) (least : LeastClear bits i) where
  abbrev free : (j : ℕ) → Bool
  free j = not (is_set bits j)

  ends : Dec (i < slot_count) → found is_none bits store i ≡ i
  ends (yes lt) = scan-found is_none bits store free (none_free bits store) i lt (ap not (least.clear (omega (arith, long))))
  ends (no end) = scan-end is_none bits store free (none_free bits store) i (omega (arith, least.inside, long))

  pub lowest-free : i ≡ first_index is_none (slots_of bits store)
  lowest-free =
      sym (ends (dec_lt i slot_count))
      ∙ scan-past is_none bits store free (none_free bits store) i (omega (arith, least.inside, long)) (λ j lt. ap not (least.set_before j lt))
      ∙ scan-whole is_none bits store

-- Slots that have another flow number are passed.
pub scan-skip : (number : ℕ) (bits store : List ℕ) (i : ℕ) → i ≤ slot_count → OthersFrom number store 0 i → found (holds number) bits store i ≡ found (holds number) bits store 0
scan-skip number bits store i h others =
    scan-past (holds number) bits store (named number bits store) (holds_named number bits store) i h
    (λ j lt. simp (ne_eqb (get_or store j 0) number (others j (omega arith) lt)))

module _ (number : ℕ) (store : List ℕ) where
  pub others-join : {i m end : ℕ} → OthersFrom number store i m → OthersFrom number store m end → OthersFrom number store i end
  others-join {m = m} before after j low lt = go (dec_lt j m)
    where
      go : Dec (j < m) → get_or store j 0 ≡ number → ⊥
      go (yes h) = before j low h
      go (no h) = after j (omega arith) lt
