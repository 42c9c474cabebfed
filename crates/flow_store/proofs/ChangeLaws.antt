-- The view when one slot changes: the slots before and after it read the same numbers, and the same entries, which may have moved.
-- Assumes nothing.
use Rattle.std.proofs.Common.{◌≡◌, ℕ, zero, suc, ◌+◌, ◌-◌, ◌<◌, ◌≤◌, Bool, true, cond, List, [], ◌∷◌, get_or, take, drop, set, sym, ap, ◌∙◌, ap₂, suc-add, zero-add, arith, length-set, get_or-set_other, get_or-set_same, take-take, drop-drop, ext_get_or}
use mathlib.Core.Option.{none}
use native.Mathlib.Decide.{dec_lt}
use lib.Seq.{take-nil}
use Rattle.model.specs.Sizes.{slot_count}
use Rattle.model.specs.Reference.{Slot}
use Rattle.bit_words.specs.View.{is_set}
use Rattle.flow_store.specs.View.{pool_of, hops_at, start_at, entries_in, slot_in, count_at, slots_of, counts_from, Packed}
use Rattle.flow_store.specs.Laws.{length-slots, slot_at, SameNumbers, slot-alone, counts-alike}
use Rattle.flow_store.proofs.ViewLaws.{counts-around, count_held}

drop-take : (c m : ℕ) (l : List ℕ) → drop c (take (c + m) l) ≡ take m (drop c l)
drop-take zero m l = rw (zero-add m)
drop-take (suc c) m [] = rw (take-nil {A = ℕ} (suc c + m), take-nil {A = ℕ} m)
drop-take (suc c) m (x ∷ l) = rw (suc-add c m) (drop-take c m l)

-- Lists whose first n agree agree in each part of these.
part_same : (n a c : ℕ) (p q : List ℕ) → take n q ≡ take n p → a + c ≤ n → take c (drop a q) ≡ take c (drop a p)
part_same n a c p q e h =
    let front : take (a + c) q ≡ take (a + c) p = sym (take-take (a + c) n q h) ∙ ap (take (a + c)) e ∙ take-take (a + c) n p h in
    sym (drop-take a c q) ∙ ap (drop a) front ∙ drop-take a c p

-- Where n numbers that stood from y on stand from x on, so does each part of them.
part_moved : (n a c x y : ℕ) (p q : List ℕ) → take n (drop x q) ≡ take n (drop y p) → a + c ≤ n → take c (drop (x + a) q) ≡ take c (drop (y + a) p)
part_moved n a c x y p q e h =
    ap (take c) (sym (drop-drop a x q)) ∙ part_same n a c (drop y p) (drop x q) e h ∙ ap (take c) (drop-drop a y p)

module _ (bits store bits' store' : List ℕ) where
  -- The bit of slot i is the same, and so are its numbers but the start.
  abbrev pub SameAt : (i : ℕ) → Type 0
  SameAt i = (is_set bits' i ≡ is_set bits i) × SameNumbers 6 store store' i

  counts_same : (n i : ℕ) → ((j : ℕ) → i ≤ j → j < i + n → SameAt j) → counts_from n i bits' store' ≡ counts_from n i bits store
  unfolding count_at
  counts_same n i same =
      counts-alike bits store bits' store' n i
      (λ j low high. ap₂ (λ (b : Bool) (c : ℕ). cond b c 0) (same j low high).0 ((same j low high).1 5 (omega arith)))

  -- The view with slot k set, where each other slot shows the same.
  pub slot-put : (k : ℕ) (x : Slot) → k < slot_count → slot_in bits' store' k ≡ x
      → ((i : ℕ) → i < slot_count → (i ≡ k → ⊥) → slot_in bits' store' i ≡ slot_in bits store i)
      → slots_of bits' store' ≡ set (slots_of bits store) k x
  slot-put k x inside own others =
      ext_get_or none (slots_of bits' store') (set (slots_of bits store) k x) (length-slots bits' store' ∙ sym (length-set (slots_of bits store) k x ∙ length-slots bits store))
      (λ i h. slot_at bits' store' i (omega (arith, length-slots bits' store')) ∙ go i (omega (arith, length-slots bits' store')) (dec_lt i k) (dec_lt k i))
    where
      other : (i : ℕ) → i < slot_count → (i ≡ k → ⊥) → slot_in bits' store' i ≡ get_or (set (slots_of bits store) k x) i none
      other i h apart = others i h apart ∙ sym (get_or-set_other (slots_of bits store) k i x none apart ∙ slot_at bits store i h)

      go : (i : ℕ) → i < slot_count → Dec (i < k) → Dec (k < i) → slot_in bits' store' i ≡ get_or (set (slots_of bits store) k x) i none
      go i h (yes lt) d = other i h (λ e. omega arith)
      go i h (no le) (yes gt) = other i h (λ e. omega arith)
      go i h (no le) (no ge) =
          let same : i ≡ k = omega arith in
          rw same (own ∙ sym (get_or-set_same (slots_of bits store) k x none (omega (arith, length-slots bits store))))

-- Slot k has changed, and the others haven't but for their starts.
module _ (bits store bits' store' : List ℕ) (k : ℕ) (inside : k < slot_count) (others : (i : ℕ) → i < slot_count → (i ≡ k → ⊥) → SameAt bits store bits' store' i) where
  counts-before : (n : ℕ) → n ≤ k → counts_from n 0 bits' store' ≡ counts_from n 0 bits store
  counts-before n h = counts_same bits store bits' store' n 0 (λ j low high. others j (omega arith) (λ e. omega arith))

  -- Past it the counts differ by what its own count does.
  counts_past : (n : ℕ) → k < n → n ≤ slot_count → counts_from n 0 bits' store' + count_at bits store k ≡ counts_from n 0 bits store + count_at bits' store' k
  counts_past n h in-slots =
      let after : counts_from (n - suc k) (suc k) bits' store' ≡ counts_from (n - suc k) (suc k) bits store =
      counts_same bits store bits' store' (n - suc k) (suc k) (λ j low high. others j (omega arith) (λ e. omega arith)) in
      omega (arith, counts-around bits store n k h, counts-around bits' store' n k h, counts-before k (omega arith), after)

  pub counts-changed : counts_from slot_count 0 bits' store' + count_at bits store k ≡ counts_from slot_count 0 bits store + count_at bits' store' k
  counts-changed = counts_past slot_count inside (omega arith)

  -- The starts before it are the same, and those of held slots past it have moved as the counts have.
  module _ (packed : Packed bits store) (before : (i : ℕ) → i < k → start_at store' i ≡ start_at store i)
      (after : (i : ℕ) → k < i → i < slot_count → is_set bits i ≡ true → start_at store' i + count_at bits store k ≡ start_at store i + count_at bits' store' k) where
    pub starts-changed : (is_set bits' k ≡ true → start_at store' k ≡ counts_from k 0 bits store)
        → (i : ℕ) → i < slot_count → is_set bits' i ≡ true → start_at store' i ≡ counts_from i 0 bits' store'
    starts-changed own i h held = go (dec_lt i k) (dec_lt k i)
      where
        was : (i ≡ k → ⊥) → start_at store i ≡ counts_from i 0 bits store
        was other = packed.starts i h (sym (others i h other).0 ∙ held)

        go : Dec (i < k) → Dec (k < i) → start_at store' i ≡ counts_from i 0 bits' store'
        go (yes lt) d = before i lt ∙ was (λ e. omega arith) ∙ sym (counts-before i (omega arith))
        go (no le) (yes gt) =
            omega (arith, after i gt h (sym (others i h (λ e. omega arith)).0 ∙ held), was (λ e. omega arith), counts_past i gt (omega arith))
        go (no le) (no ge) =
            let same : i ≡ k = omega arith in
            rw same (own (rw same at held) ∙ sym (counts-before k (omega arith)))

    -- The entries before and after its own are the same too.
    module _ (front : take (counts_from k 0 bits store) (pool_of store') ≡ take (counts_from k 0 bits store) (pool_of store))
        (rest : take (counts_from (slot_count - suc k) (suc k) bits store) (drop (counts_from k 0 bits store + count_at bits' store' k) (pool_of store'))
        ≡ take (counts_from (slot_count - suc k) (suc k) bits store) (drop (counts_from k 0 bits store + count_at bits store k) (pool_of store))) where
      entries-same : (i : ℕ) → i < slot_count → (i ≡ k → ⊥) → is_set bits i ≡ true → entries_in store' i ≡ entries_in store i
      entries-same i h other held = rw ((others i h other).1 5 (omega arith)) (go (dec_lt i k))
        where
          start : ℕ
          start = counts_from k 0 bits store

          go : Dec (i < k) → take (hops_at store i) (drop (start_at store' i) (pool_of store')) ≡ take (hops_at store i) (drop (start_at store i) (pool_of store))
          go (yes lt) =
              rw (before i lt)
              (part_same start (start_at store i) (hops_at store i) (pool_of store) (pool_of store') front
              (omega (arith, packed.starts i h held, counts-around bits store k i lt, count_held bits store i held)))
          go (no le) =
              let past : k < i = omega arith in
              let a = start_at store i - (start + count_at bits store k) in
              let now : start_at store' i ≡ start + count_at bits' store' k + a = omega (arith, after i past h held, packed.starts i h held, counts-around bits store i k past) in
              let was : start_at store i ≡ start + count_at bits store k + a = omega (arith, packed.starts i h held, counts-around bits store i k past) in
              ap (λ (n : ℕ). take (hops_at store i) (drop n (pool_of store'))) now
              ∙ part_moved (counts_from (slot_count - suc k) (suc k) bits store) a (hops_at store i) (start + count_at bits' store' k) (start + count_at bits store k) (pool_of store) (pool_of store') rest
              (omega (arith, was, packed.starts i h held, count_held bits store i held, counts-around bits store slot_count i h, counts-around bits store slot_count k inside))
              ∙ ap (λ (n : ℕ). take (hops_at store i) (drop n (pool_of store))) (sym was)

      pub slot-changed : (x : Slot) → slot_in bits' store' k ≡ x → slots_of bits' store' ≡ set (slots_of bits store) k x
      slot-changed x own =
          slot-put bits store bits' store' k x inside own
          (λ i h other.
          let same = others i h other in
          slot-alone bits store bits' store' i same.0 (λ held. (λ r few. same.1 r (omega arith), entries-same i h other held)))
