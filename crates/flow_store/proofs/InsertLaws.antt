-- A flow stored at a free slot, and its path put in the pool behind those of the slots before it, is the view with that slot set.
-- Assumes nothing.
use Rattle.std.proofs.Common.{◌≡◌, ℕ, zero, suc, ◌+◌, ◌-◌, ◌*◌, ◌<◌, ◌≤◌, true, false, List, [], ◌∷◌, map, length, get_or, take, drop, set, refl, ap, ◌∙◌, zero-add, arith, length-set, get_or-set_other, get_or-set_same, drop-set-lt}
use mathlib.Core.Option.{some}
use Rattle.model.specs.Sizes.{slot_count}
use Rattle.model.specs.Orders.{flow_of}
use Rattle.queue_table.specs.View.{hop_at}
use Rattle.orders.specs.declared.Flow.{Flow}
use Rattle.orders.specs.View.{fields_of}
use Rattle.bit_words.specs.View.{is_set, BitChanged}
use Rattle.flow_store.specs.View.{slot_numbers, store_numbers, start_position, pool_of, hops_at, start_at, count_at, flow_at, slot_of, slot_in, counts_from, flow_stored, StartsMoved, path_inserted, Placeable, Placed}
use Rattle.flow_store.proofs.ViewLaws.{counts-around, count-free, count_held, pool-long}
use Rattle.flow_store.proofs.ChangeLaws.{SameAt, counts-changed, starts-changed, slot-changed}
use Rattle.flow_store.proofs.PoolLaws.{pooled, pooled-long, pooled-behind, pooled-number, inserted-long, inserted-front, inserted-path, inserted-rest}

-- Numbers stored at a slot, one of each kind from kind r on.
module _ (k : ℕ) (inside : k < slot_count) where
  spread : (r : ℕ) (vs l : List ℕ) → List ℕ
  spread r [] l = l
  spread r (v ∷ vs) l = spread (suc r) vs (set l (slot_count * r + k) v)

  spread-long : (r : ℕ) (vs l : List ℕ) → length (spread r vs l) ≡ length l
  unfolding spread
  spread-long r [] l = refl
  spread-long r (v ∷ vs) l = spread-long (suc r) vs (set l (slot_count * r + k) v) ∙ length-set l (slot_count * r + k) v

  -- Elsewhere nothing changes.
  spread-other : (r : ℕ) (vs l : List ℕ) (p : ℕ) → ((m : ℕ) → r ≤ m → slot_count * m + k ≡ p → ⊥) → get_or (spread r vs l) p 0 ≡ get_or l p 0
  unfolding spread
  spread-other r [] l p h = refl
  spread-other r (v ∷ vs) l p h =
      spread-other (suc r) vs (set l (slot_count * r + k) v) p (λ m le e. h m (omega arith) e)
      ∙ get_or-set_other l (slot_count * r + k) p v 0 (λ e. h r (omega arith) (omega (arith, e)))

  spread_at : (r : ℕ) (vs l : List ℕ) (q : ℕ) → q < length vs → slot_count * (r + length vs) ≤ length l → get_or (spread r vs l) (slot_count * (r + q) + k) 0 ≡ get_or vs q 0
  unfolding spread
  spread_at r [] l q h room = absurd (omega arith)
  spread_at r (v ∷ vs) l zero h room =
      let e : slot_count * (r + 0) + k ≡ slot_count * r + k = omega arith in
      rw e
      (spread-other (suc r) vs (set l (slot_count * r + k) v) (slot_count * r + k) (λ m le e. omega arith)
      ∙ get_or-set_same l (slot_count * r + k) v 0 (omega arith))
  spread_at r (v ∷ vs) l (suc q) h room =
      let e : slot_count * (r + suc q) + k ≡ slot_count * (suc r + q) + k = omega arith in
      rw e (spread_at (suc r) vs (set l (slot_count * r + k) v) q (omega arith) (omega (arith, length-set l (slot_count * r + k) v)))

  -- Nor does what stands behind the kinds.
  spread-behind : (r : ℕ) (vs l : List ℕ) → slot_count * (r + length vs) ≤ slot_numbers → pool_of (spread r vs l) ≡ pool_of l
  unfolding spread
  spread-behind r [] l room = refl
  spread-behind r (v ∷ vs) l room =
      spread-behind (suc r) vs (set l (slot_count * r + k) v) (omega arith) ∙ drop-set-lt slot_numbers l (slot_count * r + k) v (omega arith)

-- A flow stored at a slot: its numbers there, every other slot's as they were.
module _ (k start : ℕ) (f : Flow) (store : List ℕ) (inside : k < slot_count) (long : length store ≡ store_numbers) where
  abbrev numbers : List ℕ
  numbers = f.number ∷ f.share.rate.0 ∷ f.share.burst.0 ∷ f.share.frame.0 ∷ f.deadline.0 ∷ f.hops ∷ start ∷ []

  stored : flow_stored k start f store ≡ spread k inside 0 numbers store
  unfolding flow_stored spread
  stored = rw (zero-add k)

  number-stored : (q : ℕ) → q < 7 → get_or (flow_stored k start f store) (slot_count * (0 + q) + k) 0 ≡ get_or numbers q 0
  number-stored q h = rw stored (spread_at k inside 0 numbers store q h (omega arith))

  flow-stored : (entries : List ℕ) → flow_at (flow_stored k start f store) k entries ≡ flow_of (fields_of f) (map hop_at entries)
  unfolding flow_at flow_of
  flow-stored entries =
      λ t.
      record {
        number = (rw (zero-add k) at (number-stored 0 (omega arith))) t;
        rate = number-stored 1 (omega arith) t;
        burst = number-stored 2 (omega arith) t;
        frame = number-stored 3 (omega arith) t;
        deadline = number-stored 4 (omega arith) t;
        path = map hop_at entries;
      }

  stored_other : (i r : ℕ) → i < slot_count → (i ≡ k → ⊥) → get_or (flow_stored k start f store) (slot_count * r + i) 0 ≡ get_or store (slot_count * r + i) 0
  stored_other i r h other =
      rw stored (spread-other k inside 0 numbers store (slot_count * r + i) (λ m le e. other (omega arith)))

  stored-long : length (flow_stored k start f store) ≡ store_numbers
  stored-long = rw stored (spread-long k inside 0 numbers store ∙ long)

  stored-behind : pool_of (flow_stored k start f store) ≡ pool_of store
  stored-behind = rw stored (spread-behind k inside 0 numbers store (omega arith))

module _ {k : ℕ} {f : Flow} {entries bits store : List ℕ} (ok : Placeable k f entries bits store) (free : is_set bits k ≡ false) where
  abbrev start : ℕ
  start = counts_from k 0 bits store

  abbrev end : ℕ
  end = counts_from slot_count 0 bits store

  none_yet : count_at bits store k ≡ 0
  none_yet = count-free bits store k free

  around : end ≡ start + counts_from (slot_count - suc k) (suc k) bits store
  around = omega (arith, counts-around bits store slot_count k ok.inside, none_yet)

  pub order : start ≤ end
  order = omega (arith, around)

  pub room : end + length entries ≤ length (pool_of store)
  room = omega (arith, ok.room, pool-long store ok.stored.store_long)

  abbrev pool' : List ℕ
  pool' = path_inserted start end entries (pool_of store)

  same-long : length pool' ≡ length (pool_of store)
  same-long = inserted-long start end entries (pool_of store) order room

  abbrev placed : List ℕ
  placed = pooled store pool'

  -- The starts past the slot have moved up by the path's entries, and its bit is set.
  module _ {bits' moved : List ℕ} (marked : BitChanged k true bits bits') (shift : StartsMoved (k + 1) (length entries) placed moved) where
    abbrev store' : List ℕ
    store' = flow_stored k start f moved

    number-placed : (j : ℕ) → j < slot_numbers → get_or placed j 0 ≡ get_or store j 0
    number-placed = pooled-number store pool' ok.stored.store_long same-long

    long : length moved ≡ store_numbers
    long = shift.long ∙ pooled-long store pool' ok.stored.store_long same-long

    behind : pool_of store' ≡ pool'
    behind =
        stored-behind k start f moved ok.inside long
        ∙ shift.behind
        ∙ pooled-behind store pool' ok.stored.store_long same-long

    own : hops_at store' k ≡ length entries
    own = number-stored k start f moved ok.inside long 5 (omega arith) ∙ ok.hops

    count : count_at bits' store' k ≡ length entries
    count = count_held bits' store' k marked.own ∙ own

    others : (i : ℕ) → i < slot_count → (i ≡ k → ⊥) → SameAt bits store bits' store' i
    others i h other = (
      marked.others i other,
      λ r few.
          stored_other k start f moved ok.inside long i r h other
          ∙ shift.others (slot_count * r + i) (omega arith)
          ∙ number-placed (slot_count * r + i) (omega arith),
    )

    before : (i : ℕ) → i < k → start_at store' i ≡ start_at store i
    before i lt =
        stored_other k start f moved ok.inside long i 6 (omega (arith, ok.inside)) (λ e. omega arith)
        ∙ shift.others (start_position i) (omega arith)
        ∙ number-placed (start_position i) (omega (arith, ok.inside))

    -- A start past the slot that counts is at most the pool's length, so that its sum doesn't wrap.
    after : (i : ℕ) → k < i → i < slot_count → is_set bits i ≡ true → start_at store' i + count_at bits store k ≡ start_at store i + count_at bits' store' k
    after i gt h set =
        omega (
          arith,
          stored_other k start f moved ok.inside long i 6 h (λ e. omega arith),
          shift.moved i (omega arith) h,
          number-placed (start_position i) (omega arith),
          none_yet,
          count,
          ok.room,
          ok.stored.packed.starts i h set,
          counts-around bits store slot_count i h,
        )

    starts-here : start_at store' k ≡ start
    starts-here = number-stored k start f moved ok.inside long 6 (omega arith)

    held : slot_in bits' store' k ≡ some (flow_of (fields_of f) (map hop_at entries))
    unfolding slot_of
    held = rw (marked.own, own, starts-here, behind, inserted-path start end entries (pool_of store) order room, flow-stored k start f moved ok.inside long entries)

    rest : take (counts_from (slot_count - suc k) (suc k) bits store) (drop (start + count_at bits' store' k) (pool_of store'))
        ≡ take (counts_from (slot_count - suc k) (suc k) bits store) (drop (start + count_at bits store k) (pool_of store))
    rest =
        let left : counts_from (slot_count - suc k) (suc k) bits store ≡ end - start = omega (arith, around) in
        let same : start + count_at bits store k ≡ start = omega (arith, none_yet) in
        rw (count, same, left, behind) (inserted-rest start end entries (pool_of store) order room)

    pub inserted : Placed k f entries bits store bits' store'
    inserted =
        record {
          view = slot-changed bits store bits' store' k ok.inside others ok.stored.packed before after
              (ap (take start) behind ∙ inserted-front start end entries (pool_of store) order room) rest _ held;
          stored = record {
            bits-long = marked.long ∙ ok.stored.bits-long;
            store_long = stored-long k start f moved ok.inside long;
            packed = record {
              fits = omega (arith, counts-changed bits store bits' store' k ok.inside others, count, none_yet, ok.room);
              starts = starts-changed bits store bits' store' k ok.inside others ok.stored.packed before after (λ e. starts-here);
            };
          };
        }
