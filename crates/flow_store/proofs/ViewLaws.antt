-- The held entries counted, and the paths of packed arrays. By induction on the slots.
-- Assumes nothing.
use Rattle.std.proofs.Common.{◌≡◌, ℕ, zero, suc, ◌+◌, ◌-◌, ◌<◌, ◌≤◌, Bool, true, false, cond, List, ◌∷◌, length, drop, sym, refl, ap, ◌∙◌, add-zero, add-suc, suc-add, zero-add, arith, length-drop, length-take-le}
use lib.ListN.{length-map}
use Rattle.model.specs.Sizes.{slot_count, hop_entries}
use Rattle.model.specs.Total.{total}
use Rattle.model.specs.Orders.{Flow}
use Rattle.model.specs.Reference.{Slot, held_flows, held_hops}
use Rattle.queue_table.specs.View.{hop_at}
use Rattle.bit_words.specs.View.{is_set}
use Rattle.flow_store.specs.View.{slot_numbers, store_numbers, pool_of, hops_at, start_at, count_at, flow_at, entries_in, flow_in, slot_of, slots_from, slots_of, counts_from, Packed, PackedStore, PathInside, Readable}

module _ (bits store : List ℕ) where
  pub counts-split : (k n i : ℕ) → counts_from (k + n) i bits store ≡ counts_from k i bits store + counts_from n (i + k) bits store
  unfolding counts_from
  counts-split zero n i = rw (zero-add n, add-zero i) (omega arith)
  counts-split (suc k) n i =
      rw (suc-add k n, add-suc i k, ← suc-add i k) (omega (arith, counts-split k n (suc i)))

  split-counts : (k r : ℕ) → counts_from (k + suc r) 0 bits store ≡ counts_from k 0 bits store + (count_at bits store k + counts_from r (suc k) bits store)
  unfolding counts_from
  split-counts k r = counts-split k (suc r) 0 ∙ rw (zero-add k)

  -- The entries of n slots: those before slot k, its own, and those after it.
  pub counts-around : (n k : ℕ) → k < n → counts_from n 0 bits store ≡ counts_from k 0 bits store + (count_at bits store k + counts_from (n - suc k) (suc k) bits store)
  counts-around n k h =
      let m : n ≡ k + suc (n - suc k) = omega arith in
      ap (λ (j : ℕ). counts_from j 0 bits store) m ∙ split-counts k (n - suc k)

  -- Slot k counted too.
  pub counts-one : (k : ℕ) → counts_from k 0 bits store + count_at bits store k ≡ counts_from (k + 1) 0 bits store
  unfolding counts_from
  counts-one k = sym (counts-split k 1 0 ∙ rw (zero-add k) (omega arith))

  -- A free slot has no entries, and a held one as many as its hop count.
  pub count-free : (k : ℕ) → is_set bits k ≡ false → count_at bits store k ≡ 0
  unfolding count_at
  count-free k free = rw free

  pub count_held : (k : ℕ) → is_set bits k ≡ true → count_at bits store k ≡ hops_at store k
  unfolding count_at
  count_held k held = rw held

  -- A held path lies in the pool.
  pub path_inside : Packed bits store → (k : ℕ) → k < slot_count → is_set bits k ≡ true → PathInside store k
  path_inside packed k h held = omega (arith, counts-around slot_count k h, packed.fits, packed.starts k h held, count_held k held)

  pub readable : PackedStore bits store → Readable bits store
  readable stored = record { bits-long = stored.bits-long; store_long = stored.store_long; inside = path_inside stored.packed }

module _ (store : List ℕ) (long : length store ≡ store_numbers) where
  pub pool-long : length (pool_of store) ≡ hop_entries
  pool-long = length-drop slot_numbers store ∙ omega (arith, long)

  -- A path in the pool has as many entries as its slot's hop count says.
  pub entries-long : (k : ℕ) → PathInside store k → length (entries_in store k) ≡ hops_at store k
  entries-long k inside =
      length-take-le (hops_at store k) (drop (start_at store k) (pool_of store)) (omega (arith, length-drop (start_at store k) (pool_of store), pool-long, inside))

  pub flow-long : (k : ℕ) → PathInside store k → length (flow_in store k).path ≡ hops_at store k
  unfolding flow_at
  flow-long k inside = length-map (entries_in store k) hop_at ∙ entries-long k inside

-- The held entries: a held flow has as many as its slot's count says.
held_one : (held : Bool) (hops : ℕ) (f : Flow) (rest : List Slot) → (held ≡ true → length f.path ≡ hops)
    → held_hops (held_flows (slot_of held f ∷ rest)) ≡ cond held hops 0 + held_hops (held_flows rest)
unfolding slot_of held_flows held_hops total
held_one true hops f rest long = rw (long refl)
held_one false hops f rest long = sym (zero-add (held_hops (held_flows rest)))

module _ (bits store : List ℕ) (stored : PackedStore bits store) where
  held-from : (n i : ℕ) → i + n ≤ slot_count → held_hops (held_flows (slots_from n i bits store)) ≡ counts_from n i bits store
  unfolding slots_from counts_from count_at held_hops held_flows total
  held-from zero i h = refl
  held-from (suc n) i h =
      held_one (is_set bits i) (hops_at store i) (flow_in store i) (slots_from n (suc i) bits store)
      (λ held. flow-long store stored.store_long i (path_inside bits store stored.packed i (omega arith) held))
      ∙ ap (λ (m : ℕ). cond (is_set bits i) (hops_at store i) 0 + m) (held-from n (suc i) (omega arith))

  pub held-hops : held_hops (held_flows (slots_of bits store)) ≡ counts_from slot_count 0 bits store
  unfolding slots_of
  held-hops = held-from slot_count 0 (omega arith)
