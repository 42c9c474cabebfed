-- What the array and the answers of this crate say in the terms of the model.
use Rattle.std.specs.Prelude.{ℕ, zero, suc, ◌+◌, ◌-◌, ◌*◌, ◌/◌, ◌%◌, ◌≤◌, ◌<◌, ◌≡◌, Bool, true, ◌&&◌, List, [], ◌∷◌, ◌++◌, length, get_or, ltb}
use Rattle.std.specs.Prelude.{Result, Some, None, Ok, Err, MatchResult}
use Rattle.std.specs.Result.{result_unwrap_or}
use Rattle.std.specs.Prelude as code
use Rattle.std.proofs.Math.Option.{Option, none, some}
use Rattle.std.proofs.lemmas.List.Edits.{sets}
use Rattle.model.specs.Words.{All}
use Rattle.model.specs.Sizes.{links_most, levels_most, queues_most}
use Rattle.model.specs.Columns.{Line}
use Rattle.model.specs.QueueTable as model
use Rattle.model.specs.Orders.{Hop}
use Rattle.model.specs.Reference as opened
use Rattle.queue_table.specs.declared.row.Row.{Row}
use Rattle.queue_table.specs.declared.Fault.{Fault}
use Rattle.queue_table.specs.declared.Fault.TheVariants.{Malformed, OutOfRange, OutOfTurn, Disagrees, TooLong}
use Rattle.queue_table.specs.declared.Refusal.{Refusal}

abbrev pub numbers_of : Row → model.Row
numbers_of r =
    record {
      link = r.link;
      from = r.from;
      to = r.to;
      speed = r.speed;
      level = r.level;
      threshold = r.threshold;
      buffer = r.buffer;
      fixed_delay = r.fixed;
      best_effort = r.besteffort;
    }

abbrev pub row_of : code.Option Row → Option model.Row
row_of (Some r) = some (numbers_of r)
row_of None = none

-- Document 01's code of a fault.
abbrev pub fault_code : Fault → ℕ
fault_code Malformed = 1
fault_code OutOfRange = 2
fault_code OutOfTurn = 3
fault_code Disagrees = 4
fault_code TooLong = 5

-- The code of a line as the model has it: 0 where nothing is against it.
abbrev pub code_of : Result Unit Fault → ℕ
code_of (Ok _) = 0
code_of (Err fault) = fault_code fault

module _ {A : Type 0} where
  -- The values at 0 to n - 1, in this order.
  unfoldable pub up_to : ℕ → (ℕ → A) → List A
  up_to zero f = []
  up_to (suc n) f = up_to n f ++ (f n ∷ [])

  -- The same, the last first.
  unfoldable pub down_from : ℕ → (ℕ → A) → List A
  down_from zero f = []
  down_from (suc n) f = f n ∷ down_from n f

-- A hop entry names a queue by one number: eight to a link, link and level counted from 0.
abbrev pub entry_at : (link level : ℕ) → ℕ
entry_at link level = levels_most * link + level

abbrev pub link_in : (entry : ℕ) → ℕ
link_in entry = entry / levels_most

abbrev pub level_in : (entry : ℕ) → ℕ
level_in entry = entry % levels_most

unfoldable pub hop_at : (entry : ℕ) → Hop
hop_at entry = record { link = link_in entry + 1; level = level_in entry + 1 }

-- Where the numbers of a link stand, those of a queue, and the number of links; how many numbers there are.
abbrev pub link_position : (link : ℕ) → ℕ
link_position i = 6 * i

abbrev pub queue_position : (entry : ℕ) → ℕ
queue_position e = link_position links_most + 2 * e

abbrev pub count_position : ℕ
count_position = queue_position queues_most

abbrev pub table_numbers : ℕ
table_numbers = count_position + 1

-- How many links there are.
unfoldable pub link_count : (table : List ℕ) → ℕ
link_count table = get_or table count_position 0

-- From node, to node, speed, number of levels, fixed delay and best-effort frame of link i, counted from 0.
unfoldable pub from_at : (table : List ℕ) (i : ℕ) → ℕ
from_at table i = get_or table (link_position i) 0

unfoldable pub to_at : (table : List ℕ) (i : ℕ) → ℕ
to_at table i = get_or table (link_position i + 1) 0

unfoldable pub speed_at : (table : List ℕ) (i : ℕ) → ℕ
speed_at table i = get_or table (link_position i + 2) 0

unfoldable pub levels_at : (table : List ℕ) (i : ℕ) → ℕ
levels_at table i = get_or table (link_position i + 3) 0

unfoldable pub fixed_delay_at : (table : List ℕ) (i : ℕ) → ℕ
fixed_delay_at table i = get_or table (link_position i + 4) 0

unfoldable pub best_effort_at : (table : List ℕ) (i : ℕ) → ℕ
best_effort_at table i = get_or table (link_position i + 5) 0

-- Threshold and buffer of the queue that an entry names.
unfoldable pub threshold_at : (table : List ℕ) (entry : ℕ) → ℕ
threshold_at table e = get_or table (queue_position e) 0

unfoldable pub buffer_at : (table : List ℕ) (entry : ℕ) → ℕ
buffer_at table e = get_or table (queue_position e + 1) 0

-- Level p of link i, both counted from 0.
unfoldable pub queue_at : (table : List ℕ) (i p : ℕ) → model.Queue
queue_at table i p = record { threshold = threshold_at table (entry_at i p); buffer = buffer_at table (entry_at i p) }

-- Link i, counted from 0.
unfoldable pub link_at : (table : List ℕ) (i : ℕ) → model.Link
link_at table i =
    record {
      from = from_at table i;
      to = to_at table i;
      speed = speed_at table i;
      fixed_delay = fixed_delay_at table i;
      best_effort = best_effort_at table i;
      levels = up_to (levels_at table i) (queue_at table i);
    }

-- The first n links, newest first: how a table stands while it is read.
unfoldable pub links_of : (n : ℕ) (table : List ℕ) → List model.Link
links_of n table = down_from n (link_at table)

-- The links of the array, link 1 first.
unfoldable pub table_of : (table : List ℕ) → model.Table
table_of table = up_to (link_count table) (link_at table)

-- An entry names a queue of the table.
unfoldable pub is_queue : (table : List ℕ) (entry : ℕ) → Bool
is_queue table entry = ltb (link_in entry) (link_count table) && ltb (level_in entry) (levels_at table (link_in entry))

-- Each entry names a queue of the table.
abbrev pub AllQueues : (table entries : List ℕ) → Type 0
AllQueues table entries = All (λ e. is_queue table e ≡ true) entries

-- An array of the right size that holds n links of at most 8 levels.
pub record Linked (n : ℕ) (table : List ℕ) : Type 0 where
  pub long : length table ≡ table_numbers
  pub few : n ≤ links_most
  pub shallow : (i : ℕ) → i < n → levels_at table i ≤ levels_most

-- The same of as many links as it says.
abbrev pub WellFormed : (table : List ℕ) → Type 0
WellFormed table = Linked (link_count table) table

-- A row's numbers stored in the array: those of its link, then those of its queue.
unfoldable pub link_stored : model.Row → List ℕ → List ℕ
link_stored r table = sets table (link_position (r.link - 1)) (r.from ∷ r.to ∷ r.speed ∷ r.level ∷ r.fixed_delay ∷ r.best_effort ∷ [])

unfoldable pub queue_stored : model.Row → List ℕ → List ℕ
queue_stored r table = sets table (queue_position (entry_at (r.link - 1) (r.level - 1))) (r.threshold ∷ r.buffer ∷ [])

abbrev pub row_stored : model.Row → List ℕ → List ℕ
row_stored r table = queue_stored r (link_stored r table)

-- The array has room for the row.
pub record Placed (r : model.Row) (table : List ℕ) : Type 0 where
  pub long : length table ≡ table_numbers
  pub link-low : 1 ≤ r.link
  pub link-high : r.link ≤ links_most
  pub level-low : 1 ≤ r.level
  pub level-high : r.level ≤ levels_most

-- What a line does to the links: a fault, or the links from then on.
abbrev pub step_of : Result ℕ Fault → (table : List ℕ) → model.Step
step_of (Ok n) table = model.links (links_of n table)
step_of (Err fault) table = model.fault (fault_code fault)

-- The line was judged and added: `n` links before, and the array before and after.
pub record LineAdded (n : ℕ) (table table' : List ℕ) (line : Line) (s : Result ℕ Fault) : Type 0 where
  pub same : step_of s table' ≡ model.line_step (links_of n table) line
  pub kept : MatchResult s (λ m. Linked m table') (λ fault. Linked n table')

-- The verdict as the model says it, where the text gives this table.
abbrev pub text_of : Result Unit Refusal → model.Table → model.TableText
text_of (Ok _) t = model.accepted t
text_of (Err refusal) t = model.refused (fault_code refusal.fault) refusal.line

-- Whether the lines are refused; how many links count, none where they are.
abbrev pub verdict_of : Result ℕ Refusal → Result Unit Refusal
verdict_of (Ok n) = Ok tt
verdict_of (Err refusal) = Err refusal

abbrev pub links_read : Result ℕ Refusal → ℕ
links_read r = result_unwrap_or r 0

-- The lines say what the text does; no link counts where it is refused.
pub record LinesRead (text table : List ℕ) (r : Result ℕ Refusal) : Type 0 where
  pub same : text_of (verdict_of r) (up_to (links_read r) (link_at table)) ≡ model.read_table text
  pub held : up_to (links_read r) (link_at table) ≡ opened.table_of (model.read_table text)
  pub kept : Linked (links_read r) table

-- The array holds what the text says; no link where it is refused.
pub record TableFilled (text : List ℕ) (v : Result Unit Refusal) (table : List ℕ) : Type 0 where
  pub same : text_of v (table_of table) ≡ model.read_table text
  pub held : table_of table ≡ opened.table_of (model.read_table text)
  pub kept : WellFormed table
