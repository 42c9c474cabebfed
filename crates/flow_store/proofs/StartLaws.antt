-- Where paths start and end in the pool, read from a held slot's own start and hop count.
-- Assumes nothing.
use Rattle.std.proofs.Common.{◌≡◌, ℕ, zero, suc, ◌+◌, ◌-◌, ◌%◌, ◌^◌, ◌<◌, ◌≤◌, true, false, List, length, get_or, set, sym, refl, ap, ◌∙◌, subst, true≢false, add-one, arith, length-set, get_or-set_other, get_or-set_same, drop-set-lt}
use native.Mathlib.Decide.{dec_lt}
use Rattle.model.specs.Sizes.{slot_count, hop_entries}
use Rattle.model.proofs.Laws.List.{before-next}
use Rattle.bit_words.specs.View.{is_set}
use Rattle.flow_store.specs.View.{slot_numbers, store_numbers, start_position, pool_of, start_at, hops_at, counts_from, Packed, StartsMoved, end_before}
use Rattle.flow_store.proofs.PoolLaws.{pooled}
use Rattle.flow_store.proofs.ViewLaws.{counts-split, counts-one, counts-around, count-free, count_held}

-- The end of the slot before, past the first.
pub end-past : (store : List ℕ) (i : ℕ) → (i ≡ 0 → ⊥) → start_at store (i - 1) + hops_at store (i - 1) ≡ end_before store i
unfolding end_before
end-past store zero h = absurd (h refl)
end-past store (suc i) h =
    let m : suc i - 1 ≡ i = omega arith in
    rw m

module _ (bits store : List ℕ) where
  -- Where the slot before is held, its path ends where the counts say.
  pub end_before_lem : Packed bits store → (i : ℕ) → i ≤ slot_count → ((j : ℕ) → j < i → i ≤ j + 1 → is_set bits j ≡ true) → end_before store i ≡ counts_from i 0 bits store
  unfolding end_before counts_from
  end_before_lem packed zero h held = refl
  end_before_lem packed (suc i) h held =
      let here = held i (omega arith) (omega arith) in
      omega (arith, packed.starts i (omega arith) here, count_held bits store i here, counts-one bits store i, ap (λ n. counts_from n 0 bits store) (add-one i))

  counts-none : (n i : ℕ) → ((j : ℕ) → i ≤ j → j < i + n → is_set bits j ≡ false) → counts_from n i bits store ≡ 0
  unfolding counts_from
  counts-none zero i free = refl
  counts-none (suc n) i free =
      omega (arith, count-free bits store i (free i (omega arith) (omega arith)), counts-none n (suc i) (λ j low high. free j (omega arith) (omega arith)))

  -- Free slots have no entries, so all are counted where only such slots are left.
  pub counts_whole : (i : ℕ) → i ≤ slot_count → ((j : ℕ) → i ≤ j → j < slot_count → is_set bits j ≡ false) → counts_from i 0 bits store ≡ counts_from slot_count 0 bits store
  counts_whole i h free =
      let m : i + (slot_count - i) ≡ slot_count = omega arith in
      let rest : counts_from (slot_count - i) (0 + i) bits store ≡ 0 = counts-none (slot_count - i) (0 + i) (λ j low high. free j (omega arith) (omega arith)) in
      omega (arith, counts-split bits store i (slot_count - i) 0, rest, ap (λ n. counts_from n 0 bits store) m)

  -- The slots before slot i are packed, and their entries end at `end`.
  pub record PackedTo (i end : ℕ) : Type 0 where
    pub counted : end ≡ counts_from i 0 bits store
    pub fits : end ≤ hop_entries
    pub starts : (j : ℕ) → j < i → is_set bits j ≡ true → start_at store j ≡ counts_from j 0 bits store

  pub packed-first : PackedTo 0 0
  unfolding counts_from
  packed-first = record { counted = refl; fits = omega arith; starts = λ j lt. absurd (omega arith) }

  pub packed-free : {i end : ℕ} → PackedTo i end → is_set bits i ≡ false → PackedTo (i + 1) end
  packed-free {i} {end} p free =
      record {
        counted = omega (arith, p.counted, counts-one bits store i, count-free bits store i free);
        fits = p.fits;
        starts = before-next (λ j. is_set bits j ≡ true → start_at store j ≡ counts_from j 0 bits store) i p.starts (λ e. absurd (true≢false (sym e ∙ free)));
      }

  pub packed-held : {i end : ℕ} → PackedTo i end → is_set bits i ≡ true → start_at store i ≡ end → end + hops_at store i ≤ hop_entries → PackedTo (i + 1) (end + hops_at store i)
  packed-held {i} {end} p held own room =
      record {
        counted = omega (arith, p.counted, counts-one bits store i, count_held bits store i held);
        fits = room;
        starts = before-next (λ j. is_set bits j ≡ true → start_at store j ≡ counts_from j 0 bits store) i p.starts (λ e. own ∙ p.counted);
      }

  pub packed_all : {i end : ℕ} → i ≡ slot_count → PackedTo i end → Packed bits store
  packed_all e p = record { fits = omega (arith, ap (λ n. counts_from n 0 bits store) e, p.counted, p.fits); starts = λ j lt. p.starts j (omega arith) }

  -- A start that is another number than where the entries before it end, or a path that the pool has no room for.
  pub start-wrong : {i end : ℕ} → PackedTo i end → i < slot_count → is_set bits i ≡ true → (start_at store i ≡ end → ⊥) → Packed bits store → ⊥
  start-wrong {i} {end} p inside held other packed = other (packed.starts i inside held ∙ sym p.counted)

  pub path-past : {i end : ℕ} → PackedTo i end → i < slot_count → is_set bits i ≡ true → hop_entries < end + hops_at store i → Packed bits store → ⊥
  path-past {i} {end} p inside held over packed =
      omega (arith, p.counted, count_held bits store i held, counts-around bits store slot_count i inside, packed.fits)

-- The starts from slot `from` on, up to position `end`, have moved by `by`, and nothing else has.
pub record MovedTo (from by : ℕ) (store store' : List ℕ) (end : ℕ) : Type 0 where
  pub long : length store' ≡ length store
  pub inside : (start_position from ≤ end) × (end ≤ slot_numbers)
  pub moved : (j : ℕ) → start_position from ≤ j → j < end → get_or store' j 0 ≡ (get_or store j 0 + by) % 2 ^ 32
  pub before : (j : ℕ) → j < start_position from → get_or store' j 0 ≡ get_or store j 0
  pub after : (j : ℕ) → end ≤ j → get_or store' j 0 ≡ get_or store j 0
  pub behind : pool_of store' ≡ pool_of store

module _ (from by : ℕ) (store : List ℕ) where
  pub moved-first : from ≤ slot_count → MovedTo from by store store (start_position from)
  moved-first h =
      record {
        long = refl;
        inside = (omega arith, omega arith);
        moved = λ j low lt. absurd (omega arith);
        before = λ j lt. refl;
        after = λ j low. refl;
        behind = refl;
      }

  pub moved-next : {store' : List ℕ} {i v : ℕ} → MovedTo from by store store' i → i < slot_numbers → length store ≡ store_numbers → v ≡ (get_or store' i 0 + by) % 2 ^ 32
      → MovedTo from by store (set store' i v) (i + 1)
  moved-next {store'} {i} {v} m lt long e =
      record {
        long = length-set store' i v ∙ m.long;
        inside = (omega (arith, m.inside.0), omega arith);
        moved = λ j low h. go j low h (dec_lt j i);
        before = λ j h. get_or-set_other store' i j v 0 (λ same. omega (arith, m.inside.0)) ∙ m.before j h;
        after = λ j low. get_or-set_other store' i j v 0 (λ same. omega arith) ∙ m.after j (omega arith);
        behind = drop-set-lt slot_numbers store' i v lt ∙ m.behind;
      }
    where
      go : (j : ℕ) → start_position from ≤ j → j < i + 1 → Dec (j < i) → get_or (set store' i v) j 0 ≡ (get_or store j 0 + by) % 2 ^ 32
      go j low h (yes lt') = get_or-set_other store' i j v 0 (λ same. omega arith) ∙ m.moved j low lt'
      go j low h (no ge) =
          let same : j ≡ i = omega arith in
          rw same (get_or-set_same store' i v 0 (omega (arith, m.long)) ∙ e ∙ ap (λ n. (n + by) % 2 ^ 32) (m.after i (omega arith)))

  pub moved_all : {store' : List ℕ} {i : ℕ} → MovedTo from by store store' i → slot_numbers ≤ i → StartsMoved from by store store'
  moved_all m end =
      record {
        long = m.long;
        moved = λ i low h. m.moved (start_position i) (omega arith) (omega (arith, m.inside.1));
        others = m.before;
        behind = m.behind;
      }

-- The same of the array with another pool, whichever way that is put.
pub moved-pooled : (store : List ℕ) {from by : ℕ} {pool pool' store' : List ℕ} → pool ≡ pool' → StartsMoved from by (pooled store pool) store' → StartsMoved from by (pooled store pool') store'
moved-pooled store {from} {by} {store' = store'} e = subst (λ (l : List ℕ). StartsMoved from by (pooled store l) store') e
