-- A slot with its bit cleared, its path taken from the pool and the starts past it moved down, is the view with that slot empty.
-- Assumes nothing.
use Rattle.std.proofs.Common.{◌≡◌, ℕ, suc, ◌+◌, ◌-◌, ◌*◌, ◌%◌, ◌^◌, ◌<◌, ◌≤◌, true, false, List, length, get_or, take, drop, set, sym, ap, ◌∙◌, true≢false, arith}
use mathlib.Core.Option.{none}
use Rattle.model.specs.Sizes.{slot_count}
use Rattle.bit_words.specs.View.{is_set, BitChanged}
use Rattle.flow_store.specs.View.{start_position, pool_of, start_at, count_at, slot_of, slot_in, slots_of, counts_from, PackedStore, StartsMoved, path_removed}
use Rattle.flow_store.proofs.ViewLaws.{counts-around, count-free, pool-long}
use Rattle.flow_store.proofs.ChangeLaws.{SameAt, counts-changed, starts-changed, slot-changed}
use Rattle.flow_store.proofs.PoolLaws.{pooled, pooled-long, pooled-behind, pooled-number, removed-long, removed-front, removed-rest}

module _ {k : ℕ} {bits store : List ℕ} (inside : k < slot_count) (stored : PackedStore bits store) where
  abbrev start : ℕ
  start = counts_from k 0 bits store

  abbrev end : ℕ
  end = counts_from slot_count 0 bits store

  pub order : start + count_at bits store k ≤ end
  order = omega (arith, counts-around bits store slot_count k inside)

  pub within : end ≤ length (pool_of store)
  within = omega (arith, pool-long store stored.store_long, stored.packed.fits)

  abbrev pub pool' : List ℕ
  pool' = path_removed start end (count_at bits store k) (pool_of store)

  same-long : length pool' ≡ length (pool_of store)
  same-long = removed-long start end (count_at bits store k) (pool_of store) order within

  module _ {bits' store' : List ℕ} {down : ℕ} (complement : (down + count_at bits store k) % 2 ^ 32 ≡ 0) (marked : BitChanged k false bits bits')
      (shift : StartsMoved (k + 1) down (pooled store pool') store') where
    number-left : (j : ℕ) → j < start_position (k + 1) → get_or store' j 0 ≡ get_or store j 0
    number-left j h = shift.others j h ∙ pooled-number store pool' stored.store_long same-long j (omega (arith, inside))

    behind : pool_of store' ≡ pool'
    behind = shift.behind ∙ pooled-behind store pool' stored.store_long same-long

    count : count_at bits' store' k ≡ 0
    count = count-free bits' store' k marked.own

    others : (i : ℕ) → i < slot_count → (i ≡ k → ⊥) → SameAt bits store bits' store' i
    others i h other = (marked.others i other, λ r few. number-left (slot_count * r + i) (omega arith))

    before : (i : ℕ) → i < k → start_at store' i ≡ start_at store i
    before i lt = number-left (start_position i) (omega arith)

    -- A start past the slot that counts is at least the slot's count.
    after : (i : ℕ) → k < i → i < slot_count → is_set bits i ≡ true → start_at store' i + count_at bits store k ≡ start_at store i + count_at bits' store' k
    after i gt h set =
        omega (
          arith,
          shift.moved i (omega arith) h,
          pooled-number store pool' stored.store_long same-long (start_position i) (omega arith),
          complement,
          count,
          stored.packed.starts i h set,
          stored.packed.fits,
          counts-around bits store i k gt,
          counts-around bits store slot_count i h,
        )

    empty : slot_in bits' store' k ≡ none
    unfolding slot_of
    empty = rw marked.own

    rest : take (counts_from (slot_count - suc k) (suc k) bits store) (drop (start + count_at bits' store' k) (pool_of store'))
        ≡ take (counts_from (slot_count - suc k) (suc k) bits store) (drop (start + count_at bits store k) (pool_of store))
    rest =
        let left : counts_from (slot_count - suc k) (suc k) bits store ≡ end - count_at bits store k - start = omega (arith, counts-around bits store slot_count k inside) in
        let same : start + count_at bits' store' k ≡ start = omega (arith, count) in
        rw (same, left, behind) (removed-rest start end (count_at bits store k) (pool_of store) order within)

    pub removed : slots_of bits' store' ≡ set (slots_of bits store) k none
    removed =
        slot-changed bits store bits' store' k inside others stored.packed before after
        (ap (take start) behind ∙ removed-front start end (count_at bits store k) (pool_of store) order within) rest none empty

    pub removed-store : PackedStore bits' store'
    removed-store =
        record {
          bits-long = marked.long ∙ stored.bits-long;
          store_long = shift.long ∙ pooled-long store pool' stored.store_long same-long;
          packed = record {
            fits = omega (arith, counts-changed bits store bits' store' k inside others, count, stored.packed.fits);
            starts = starts-changed bits store bits' store' k inside others stored.packed before after (λ e. absurd (true≢false (sym e ∙ marked.own)));
          };
        }
