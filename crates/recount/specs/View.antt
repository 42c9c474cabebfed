-- What a recount asks of the arrays, and what it leaves.
use Rattle.std.specs.Prelude.{ℕ, ◌-◌, ◌*◌, ◌^◌, ◌≤◌, ◌<◌, ◌≡◌, true, List, [], ◌∷◌, length}
use Rattle.model.specs.Sizes.{queues_most, hops_most, slot_count}
use Rattle.model.specs.Reference.{held_flows}
use Rattle.model.specs.QueueTable.{Table}
use Rattle.model.specs.Aggregates.{aggregate_at}
use Rattle.units.specs.View.{AtSource}
use Rattle.queue_table.specs.View.{table_of, hop_at, AllQueues}
use Rattle.bit_words.specs.View.{is_set}
use Rattle.flow_store.specs.View.{Readable, hops_at, share_at, slot_in, slots_from, slots_of, entries_in}
use Rattle.figures.specs.View.{figure_numbers, figure_at, Below, Figures, Hops, raised}

-- The flow at slot i has its numbers in their ranges, and a path within the arrays.
pub record Ranged (table store : List ℕ) (i : ℕ) : Type 0 where
  pub few : hops_at store i ≤ hops_most
  pub share : AtSource (share_at store i)
  pub hops : Hops table (entries_in store i)

-- Arrays whose held flows can be counted in; what stands in a free slot doesn't count.
pub record Countable (table bits store : List ℕ) : Type 0 where
  pub stored : Readable bits store
  pub each : (i : ℕ) → i < slot_count → is_set bits i ≡ true → Ranged table store i

-- Each hop entry of each held slot is a queue of the table.
abbrev pub OnQueues : (table bits store : List ℕ) → Type 0
OnQueues table bits store = (i : ℕ) → i < slot_count → is_set bits i ≡ true → AllQueues table (entries_in store i)

-- The array holds the figures of the flows in the slots from slot i on.
pub record Counted (table bits store figures : List ℕ) (i : ℕ) : Type 0 where
  pub long : length figures ≡ figure_numbers
  pub below : Below ((slot_count - i) * 2 ^ 35) figures
  pub same : OnQueues table bits store
      → Figures (table_of table) (held_flows (slots_from (slot_count - i) i bits store)) figures

-- The array holds the figures of all held flows.
pub record Recounted (table bits store figures : List ℕ) : Type 0 where
  pub same : OnQueues table bits store → Figures (table_of table) (held_flows (slots_of bits store)) figures

-- Each queue's largest frame is at least that of slot i's flow, where it holds one; rate and burst sums stay.
pub record SlotRaised (bits store : List ℕ) (i : ℕ) (figures figures' : List ℕ) : Type 0 where
  pub long : length figures' ≡ figure_numbers
  pub same : (t : Table) (e : ℕ) → e < queues_most
      → figure_at figures' e ≡ raised (figure_at figures e) (aggregate_at t (held_flows (slot_in bits store i ∷ [])) (hop_at e)).frame

-- Each queue's largest frame is at least that of the held flows; rate and burst sums stay.
pub record FramesRaised (bits store figures figures' : List ℕ) : Type 0 where
  pub long : length figures' ≡ figure_numbers
  pub same : (t : Table) (e : ℕ) → e < queues_most
      → figure_at figures' e ≡ raised (figure_at figures e) (aggregate_at t (held_flows (slots_of bits store)) (hop_at e)).frame
