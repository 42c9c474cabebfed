-- What the two arrays of flows say in the terms of the model.
use Rattle.std.specs.Prelude.{◌≡◌, ℕ, zero, suc, ◌+◌, ◌-◌, ◌*◌, ◌/◌, ◌%◌, ◌^◌, ◌<◌, ◌≤◌, Bool, true, false, cond, List, [], ◌∷◌, map, length, take, drop, set, ◌≢◌, slice_index, slice_set, MatchOption}
use Rattle.std.specs.Prelude as code
use Rattle.std.proofs.Math.Option.{none, some}
use Rattle.std.proofs.Math.Seq.{paste}
use Rattle.model.specs.Sizes.{slot_count, hop_entries}
use Rattle.model.specs.Formula.{Aggregate}
use Rattle.model.specs.Orders as model
use Rattle.model.specs.Orders.{flow_of}
use Rattle.model.specs.Reference.{Slot}
use Rattle.units.specs.View.{aggregate_of, AtSource}
use Rattle.bit_words.specs.View.{word_bits, is_set}
use Rattle.queue_table.specs.View.{hop_at}
use Rattle.orders.specs.declared.Flow.{Flow}
use Rattle.orders.specs.declared.Change.{Change}
use Rattle.orders.specs.View.{fields_of}

-- How many numbers the slots have, and where those of slot i stand; its flow number stands at i.
abbrev pub slot_numbers : ℕ
slot_numbers = 7 * slot_count

abbrev pub rate_position : (i : ℕ) → ℕ
rate_position i = slot_count + i

abbrev pub burst_position : (i : ℕ) → ℕ
burst_position i = 2 * slot_count + i

abbrev pub frame_position : (i : ℕ) → ℕ
frame_position i = 3 * slot_count + i

abbrev pub deadline_position : (i : ℕ) → ℕ
deadline_position i = 4 * slot_count + i

abbrev pub hops_position : (i : ℕ) → ℕ
hops_position i = 5 * slot_count + i

abbrev pub start_position : (i : ℕ) → ℕ
start_position i = 6 * slot_count + i

-- How many numbers the array has: the slots', then the pool of hop entries.
abbrev pub store_numbers : ℕ
store_numbers = slot_numbers + hop_entries

abbrev pub pool_of : (store : List ℕ) → List ℕ
pool_of store = drop slot_numbers store

-- How many words of bits there are: slot i is held where bit i is set.
abbrev pub slot_words : ℕ
slot_words = slot_count / word_bits

-- The numbers of slot i, those of one kind one after the other.
abbrev pub number_at : (store : List ℕ) (i : ℕ) → ℕ
number_at store i = slice_index store i

abbrev pub rate_at : (store : List ℕ) (i : ℕ) → ℕ
rate_at store i = slice_index store (rate_position i)

abbrev pub burst_at : (store : List ℕ) (i : ℕ) → ℕ
burst_at store i = slice_index store (burst_position i)

abbrev pub frame_at : (store : List ℕ) (i : ℕ) → ℕ
frame_at store i = slice_index store (frame_position i)

abbrev pub deadline_at : (store : List ℕ) (i : ℕ) → ℕ
deadline_at store i = slice_index store (deadline_position i)

abbrev pub hops_at : (store : List ℕ) (i : ℕ) → ℕ
hops_at store i = slice_index store (hops_position i)

abbrev pub start_at : (store : List ℕ) (i : ℕ) → ℕ
start_at store i = slice_index store (start_position i)

-- The numbers that stand at slot i, held or free.
abbrev pub head_at : (store : List ℕ) (i : ℕ) → model.Head
head_at store i =
    record {
      number = number_at store i;
      rate = rate_at store i;
      burst = burst_at store i;
      frame = frame_at store i;
      deadline = deadline_at store i;
      hops = hops_at store i;
    }

-- The share at its source of a flow that is there.
abbrev pub share_at : (store : List ℕ) (i : ℕ) → Aggregate
share_at store i = record { rate = rate_at store i; burst = burst_at store i; frame = frame_at store i }

-- The flow at slot i, where these are its hop entries.
unfoldable pub flow_at : (store : List ℕ) (i : ℕ) (entries : List ℕ) → model.Flow
flow_at store i entries =
    record {
      number = number_at store i;
      rate = rate_at store i;
      burst = burst_at store i;
      frame = frame_at store i;
      deadline = deadline_at store i;
      path = map hop_at entries;
    }

-- The hop entries that the start and the hop count of slot i name, and the flow with them.
abbrev pub entries_in : (store : List ℕ) (i : ℕ) → List ℕ
entries_in store i = take (hops_at store i) (drop (start_at store i) (pool_of store))

abbrev pub flow_in : (store : List ℕ) (i : ℕ) → model.Flow
flow_in store i = flow_at store i (entries_in store i)

-- The bit alone says whether a slot is held; one that isn't shows nothing of its numbers.
unfoldable pub slot_of : (held : Bool) → model.Flow → Slot
slot_of held f = cond held (some f) none

abbrev pub slot_in : (bits store : List ℕ) (i : ℕ) → Slot
slot_in bits store i = slot_of (is_set bits i) (flow_in store i)

-- The n slots from slot i on, and all.
unfoldable pub slots_from : (n i : ℕ) (bits store : List ℕ) → List Slot
slots_from zero i bits store = []
slots_from (suc n) i bits store = slot_in bits store i ∷ slots_from n (suc i) bits store

unfoldable pub slots_of : (bits store : List ℕ) → List Slot
slots_of bits store = slots_from slot_count 0 bits store

-- How many hop entries slot i has: its hop count, none where it is free.
unfoldable pub count_at : (bits store : List ℕ) (i : ℕ) → ℕ
count_at bits store i = cond (is_set bits i) (hops_at store i) 0

-- The entries of the n slots from slot i on, counted.
unfoldable pub counts_from : (n i : ℕ) (bits store : List ℕ) → ℕ
counts_from zero i bits store = 0
counts_from (suc n) i bits store = count_at bits store i + counts_from n (suc i) bits store

-- The held paths fit the pool, and each starts where those before it end: so counts alone say whether there is room.
pub record Packed (bits store : List ℕ) : Type 0 where
  pub fits : counts_from slot_count 0 bits store ≤ hop_entries
  pub starts : (i : ℕ) → i < slot_count → is_set bits i ≡ true → start_at store i ≡ counts_from i 0 bits store

-- Two arrays of the right size, and packed. The numbers of a free slot, and the entries past the counts, are no flow's: what
-- `insert`, `append` and `remove` leave there is free.
pub record PackedStore (bits store : List ℕ) : Type 0 where
  pub bits-long : length bits ≡ slot_words
  pub store_long : length store ≡ store_numbers
  pub packed : Packed bits store

-- The entries that a slot's start and hop count name lie in the pool.
abbrev pub PathInside : (store : List ℕ) (i : ℕ) → Type 0
PathInside store i = start_at store i + hops_at store i ≤ hop_entries

-- Two arrays of the right size in which each held path can be read, packed or not.
pub record Readable (bits store : List ℕ) : Type 0 where
  pub bits-long : length bits ≡ slot_words
  pub store_long : length store ≡ store_numbers
  pub inside : (i : ℕ) → i < slot_count → is_set bits i ≡ true → PathInside store i

-- Where the entries of the slot before slot i end, as its start and hop count say; 0 for the first slot.
unfoldable pub end_before : (store : List ℕ) (i : ℕ) → ℕ
end_before store zero = 0
end_before store (suc i) = start_at store i + hops_at store i

-- A flow's numbers stored at a slot whose path starts there.
unfoldable pub flow_stored : (slot start : ℕ) → Flow → List ℕ → List ℕ
flow_stored slot start f store =
    let rated = set (slice_set store slot f.number) (rate_position slot) f.share.rate.0 in
    let framed = set (slice_set rated (burst_position slot) f.share.burst.0) (frame_position slot) f.share.frame.0 in
    slice_set (slice_set (slice_set framed (deadline_position slot) f.deadline.0) (hops_position slot) f.hops) (start_position slot) start

-- The starts from slot `from` on with `by` added in 32 bits, so that the complement of a count moves them down; all before and behind them is as it was.
pub record StartsMoved (from by : ℕ) (store store' : List ℕ) : Type 0 where
  pub long : length store' ≡ length store
  pub moved : (i : ℕ) → from ≤ i → i < slot_count → start_at store' i ≡ (start_at store i + by) % 2 ^ 32
  pub others : (j : ℕ) → j < start_position from → slice_index store' j ≡ slice_index store j
  pub behind : pool_of store' ≡ pool_of store

-- The entries from position `start` up to `end` moved up, and a path's put before them.
unfoldable pub path_inserted : (start end : ℕ) (entries pool : List ℕ) → List ℕ
path_inserted start end entries pool =
    paste (paste pool (start + length entries) (drop start pool) (end - start)) start entries (length entries)

-- The entries from position `start + by` up to `end` moved down to `start`.
unfoldable pub path_removed : (start end by : ℕ) (pool : List ℕ) → List ℕ
path_removed start end by pool = paste pool start (drop (start + by) pool) (end - by - start)

-- A flow's numbers fit the array: those in the ranges of an order line do.
pub record Narrow (f : Flow) : Type 0 where
  pub share : AtSource (aggregate_of f.share)
  pub deadline : f.deadline.0 ≤ 10000000

-- So do those of a change.
pub record ChangeNarrow (c : Change) : Type 0 where
  pub rate : c.rate.0 ≤ 10000000
  pub burst : c.burst.0 ≤ 1000000

-- A flow with its path for which the pool has room.
pub record Placeable (slot : ℕ) (f : Flow) (entries bits store : List ℕ) : Type 0 where
  pub stored : PackedStore bits store
  pub narrow : Narrow f
  pub inside : slot < slot_count
  pub hops : f.hops ≡ length entries
  pub room : counts_from slot_count 0 bits store + length entries ≤ hop_entries

-- The slot holds the flow with its path, all others are as they were, and the paths are packed again.
pub record Placed (slot : ℕ) (f : Flow) (entries bits store bits' store' : List ℕ) : Type 0 where
  pub view : slots_of bits' store' ≡ slice_set (slots_of bits store) slot (some (flow_of (fields_of f) (map hop_at entries)))
  pub stored : PackedStore bits' store'

-- Every slot from this one on is free.
abbrev pub FreeFrom : (bits : List ℕ) (slot : ℕ) → Type 0
FreeFrom bits slot = (i : ℕ) → slot ≤ i → i < slot_count → is_set bits i ≡ false

-- How many slots are compared together.
abbrev pub block_slots : ℕ
block_slots = 16

-- None of the slots from `i` up to `end`, held or free, has this flow number.
abbrev pub OthersFrom : (number : ℕ) (store : List ℕ) (i end : ℕ) → Type 0
OthersFrom number store i end = (j : ℕ) → i ≤ j → j < end → slice_index store j ≢ number

-- The slot that a search gives, where `first` is the first slot that is looked for, and the number of slots where there is none.
abbrev pub FoundSlot : (first : ℕ) → code.Option ℕ → Type 0
FoundSlot first r = MatchOption r (first ≡ slot_count) (λ slot. (slot < slot_count) × (slot ≡ first))
