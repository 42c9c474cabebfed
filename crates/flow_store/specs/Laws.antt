-- What slot i shows depends on its own bit, numbers and entries, on no other slot, and on nothing of a free one. So arrays that have the same at
-- the held slots show the same, and are packed or not alike. And `append` can go from the lowest slot up. Assumes nothing.
use Rattle.std.specs.Prelude.{◌≡◌, ℕ, zero, suc, ◌+◌, ◌-◌, ◌*◌, ◌<◌, ◌≤◌, min, Bool, true, false, cond, List, map, length, get_or, take, drop, replicate, slice_index, slice_index_or}
use Rattle.std.proofs.Math.Path.{refl, ap}
use Rattle.std.proofs.Common.{sym, ap₂, ◌∙◌, add-zero, zero-add, length-take, length-drop, ext_get_or, get_or-take, get_or-drop, get_or-set_other}
use Rattle.std.proofs.Math.Option.{none, some, none-ne-some}
use native.Mathlib.Omega.{arith}
use Rattle.model.specs.Sizes.{slot_count}
use Rattle.model.specs.Orders as model
use Rattle.queue_table.specs.View.{hop_at}
use Rattle.orders.specs.declared.Flow.{Flow}
use Rattle.bit_words.specs.View.{is_set}
use Rattle.bit_words.specs.Laws.{none-set}
use Rattle.flow_store.specs.View.{slot_numbers, pool_of, start_at, hops_at, flow_at, entries_in, flow_in, slot_of, slot_in, count_at, slots_from, slots_of, counts_from, Packed, Placed, FreeFrom}

module _ (bits store : List ℕ) where
  length_from : (n i : ℕ) → length (slots_from n i bits store) ≡ n
  unfolding slots_from
  length_from zero i = refl
  length_from (suc n) i = ap suc (length_from n (suc i))

  pub length-slots : length (slots_of bits store) ≡ slot_count
  unfolding slots_of
  length-slots = length_from slot_count 0

  slot-from : (n i k : ℕ) → k < n → slice_index_or (slots_from n i bits store) k none ≡ slot_in bits store (i + k)
  unfolding slots_from
  slot-from zero i k h = absurd (omega arith)
  slot-from (suc n) i zero h = ap (slot_in bits store) (sym (add-zero i))
  slot-from (suc n) i (suc k) h =
      let e : suc i + k ≡ i + suc k = omega arith in
      slot-from n (suc i) k (omega arith) ∙ ap (slot_in bits store) e

  -- The view's slot k; where it is held, its flow.
  pub slot_at : (k : ℕ) → k < slot_count → slice_index_or (slots_of bits store) k none ≡ slot_in bits store k
  unfolding slots_of
  slot_at k h = slot-from slot_count 0 k h ∙ ap (slot_in bits store) (zero-add k)

  pub held-slot : (k : ℕ) → k < slot_count → is_set bits k ≡ true → slice_index_or (slots_of bits store) k none ≡ some (flow_in store k)
  unfolding slot_of
  held-slot k h held = slot_at k h ∙ rw held

-- What is chosen by a bit is the same where it is the same with the bit set.
by_bit : {A : Type 0} (b : Bool) (x y z : A) → (b ≡ true → x ≡ y) → cond b x z ≡ cond b y z
by_bit true x y z e = e refl
by_bit false x y z e = refl

-- The numbers of slot i of these kinds, the first of them, are the same.
abbrev pub SameNumbers : (kinds : ℕ) (store store' : List ℕ) (i : ℕ) → Type 0
SameNumbers kinds store store' i = (r : ℕ) → r < kinds → slice_index store' (slot_count * r + i) ≡ slice_index store (slot_count * r + i)

flow-same : (store store' : List ℕ) (i : ℕ) → SameNumbers 5 store store' i → entries_in store' i ≡ entries_in store i → flow_in store' i ≡ flow_in store i
unfolding flow_at
flow-same store store' i same entries =
    λ t.
    record {
      number = (rw (zero-add i) at (same 0 (omega arith))) t;
      rate = same 1 (omega arith) t;
      burst = same 2 (omega arith) t;
      frame = same 3 (omega arith) t;
      deadline = same 4 (omega arith) t;
      path = map hop_at (entries t);
    }

-- Slot i shows the same where its bit is the same and, if that is set, its numbers and its path's entries are.
pub slot-alone : (bits store bits' store' : List ℕ) (i : ℕ) → is_set bits' i ≡ is_set bits i
    → (is_set bits i ≡ true → SameNumbers 5 store store' i × (entries_in store' i ≡ entries_in store i))
    → slot_in bits' store' i ≡ slot_in bits store i
unfolding slot_of
slot-alone bits store bits' store' i bit same =
    rw bit
    (by_bit (is_set bits i) (some (flow_in store' i)) (some (flow_in store i)) none (λ held. ap some (flow-same store store' i (same held).0 (same held).1)))

-- All seven numbers of slot i are the same, and so is what stands at the positions that its start and hop count name.
abbrev pub SameOwn : (store store' : List ℕ) (i : ℕ) → Type 0
SameOwn store store' i =
    SameNumbers 7 store store' i
    × ((j : ℕ) → j < hops_at store i → slice_index store' (slot_numbers + (start_at store i + j)) ≡ slice_index store (slot_numbers + (start_at store i + j)))

-- The entries that slot i names, read from another array too.
module _ (store : List ℕ) (i : ℕ) where
  abbrev named : (l : List ℕ) → List ℕ
  named l = take (hops_at store i) (drop (start_at store i) (pool_of l))

  named-long : (l : List ℕ) → length (named l) ≡ min (hops_at store i) (length l - slot_numbers - start_at store i)
  named-long l =
      length-take (hops_at store i) (drop (start_at store i) (pool_of l))
      ∙ ap (λ (n : ℕ). min (hops_at store i) n) (length-drop (start_at store i) (pool_of l) ∙ ap (λ (n : ℕ). n - start_at store i) (length-drop slot_numbers l))

  named-at : (l : List ℕ) (j : ℕ) → j < hops_at store i → slice_index (named l) j ≡ slice_index l (slot_numbers + (start_at store i + j))
  named-at l j h =
      get_or-take (hops_at store i) (drop (start_at store i) (pool_of l)) j 0 h
      ∙ get_or-drop (start_at store i) (pool_of l) j 0
      ∙ get_or-drop slot_numbers l (start_at store i + j) 0

  entries-own : (store' : List ℕ) → length store' ≡ length store → SameOwn store store' i → entries_in store' i ≡ entries_in store i
  entries-own store' long own =
      rw (own.0 5 (omega arith), own.0 6 (omega arith))
      (ext_get_or 0 (named store') (named store) (named-long store' ∙ ap (λ (n : ℕ). min (hops_at store i) (n - slot_numbers - start_at store i)) long ∙ sym (named-long store))
      (λ j h.
      let few : j < hops_at store i = omega (arith, named-long store') in
      named-at store' j few ∙ own.1 j few ∙ sym (named-at store j few)))

-- What slot i shows depends on its bit, its numbers and the entries that these name, and on no other slot.
pub slot-own : (bits store bits' store' : List ℕ) (i : ℕ) → i < slot_count → length store' ≡ length store → is_set bits' i ≡ is_set bits i
    → (is_set bits i ≡ true → SameOwn store store' i)
    → slice_index_or (slots_of bits' store') i none ≡ slice_index_or (slots_of bits store) i none
slot-own bits store bits' store' i inside long bit own =
    slot_at bits' store' i inside
    ∙ slot-alone bits store bits' store' i bit (λ held. (λ r few. (own held).0 r (omega arith), entries-own store i store' long (own held)))
    ∙ sym (slot_at bits store i inside)

-- Slots that count the same, one by one.
pub counts-alike : (bits store bits' store' : List ℕ) (n i : ℕ) → ((j : ℕ) → i ≤ j → j < i + n → count_at bits' store' j ≡ count_at bits store j)
    → counts_from n i bits' store' ≡ counts_from n i bits store
unfolding counts_from
counts-alike bits store bits' store' zero i same = refl
counts-alike bits store bits' store' (suc n) i same =
    ap₂ (λ (a b : ℕ). a + b) (same i (omega arith) (omega arith)) (counts-alike bits store bits' store' n (suc i) (λ j low high. same j (omega arith) (omega arith)))

-- A free slot's numbers mean nothing.
module _ (bits store store' : List ℕ) (long : length store' ≡ length store) (own : (i : ℕ) → i < slot_count → is_set bits i ≡ true → SameOwn store store' i) where
  pub free-shows-nothing : slots_of bits store' ≡ slots_of bits store
  free-shows-nothing =
      ext_get_or none (slots_of bits store') (slots_of bits store) (length-slots bits store' ∙ sym (length-slots bits store))
      (λ i h.
      let inside : i < slot_count = omega (arith, length-slots bits store') in
      slot-own bits store bits store' i inside long refl (own i inside))

  counts : (n i : ℕ) → i + n ≤ slot_count → counts_from n i bits store' ≡ counts_from n i bits store
  unfolding count_at
  counts n i h =
      counts-alike bits store bits store' n i
      (λ j low high. by_bit (is_set bits j) (hops_at store' j) (hops_at store j) 0 (λ held. (own j (omega arith) held).0 5 (omega arith)))

  pub free-counts-nothing : Packed bits store → Packed bits store'
  free-counts-nothing packed =
      record {
        fits = omega (arith, counts slot_count 0 (omega arith), packed.fits);
        starts = λ i h held. (own i h held).0 6 (omega arith) ∙ packed.starts i h held ∙ sym (counts i 0 (omega arith));
      }

-- `append` can go from the lowest slot up: with no bit set all slots are free, and past the slot that it filled they still are.
module _ (bits store : List ℕ) (i : ℕ) where
  clear-shows-none : is_set bits i ≡ false → slot_in bits store i ≡ none
  unfolding slot_of
  clear-shows-none free = rw free

  none-shown-clear : slot_in bits store i ≡ none → is_set bits i ≡ false
  unfolding slot_of
  none-shown-clear = go (is_set bits i) (flow_in store i)
    where
      go : (b : Bool) (f : model.Flow) → cond b (some f) none ≡ none → b ≡ false
      go true f e = absurd (none-ne-some f (sym e))
      go false f e = refl

pub free-first : (words : ℕ) → FreeFrom (replicate words 0) 0
free-first words i low h = none-set words i

pub free-next : {slot : ℕ} {f : Flow} {entries bits store bits' store' : List ℕ} → Placed slot f entries bits store bits' store' → FreeFrom bits slot → FreeFrom bits' (slot + 1)
free-next {slot} {bits = bits} {store} {bits'} {store'} placed free i low h =
    none-shown-clear bits' store' i
    (sym (slot_at bits' store' i h)
    ∙ ap (λ l. get_or l i none) placed.view
    ∙ get_or-set_other (slots_of bits store) slot i _ none (λ e. omega arith)
    ∙ slot_at bits store i h
    ∙ clear-shows-none bits store i (free i (omega arith) h))
