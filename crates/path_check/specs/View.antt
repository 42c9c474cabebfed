-- What the answers of this crate say in the terms of the model.
use Rattle.std.specs.Prelude as code
use Rattle.std.specs.Prelude.{ℕ, zero, suc, ◌+◌, ◌<◌, ◌≡◌, true, List, [], ◌∷◌, map, reverse, take, Some, None, Result, IfOk, IfErr}
use Rattle.std.specs.Result.{result_err}
use Rattle.std.proofs.Math.Option.{Option, none, some}
use Rattle.model.specs.Orders.{Hop}
use Rattle.model.specs.Aggregates.{queue_at}
use Rattle.model.specs.Reference.{Cause, at_hop, no_queue}
use Rattle.queue_table.specs.declared.access.Hop as queues
use Rattle.orders.specs.View.{line_path}
use Rattle.queue_table.specs.View.{threshold_at, fixed_delay_at, link_in, table_of, hop_at, is_queue, AllQueues}

-- An entry's part of the sum held against the deadline: the threshold of its queue and the fixed delay of its link.
abbrev pub delay_at : (table : List ℕ) (entry : ℕ) → ℕ
delay_at table entry = threshold_at table entry + fixed_delay_at table (link_in entry)

-- The cause with this code at hop i of a path, counted from 0; none past its end. Of hops with the same link and level any may stand for the first.
unfoldable pub hop_cause : (code : ℕ) (path : List Hop) (i : ℕ) → Option Cause
hop_cause code [] i = none
hop_cause code (h ∷ path) zero = some (record { code = code; link = h.link; level = h.level })
hop_cause code (h ∷ path) (suc i) = hop_cause code path i

-- The cause with this code at the hop that a search found, and none where it found none.
abbrev pub found_cause : ℕ → List Hop → code.Option ℕ → Option Cause
found_cause number path (Some i) = hop_cause number path i
found_cause number path None = none

-- The entry names the hop's queue, and there is none only where the table has no such queue.
abbrev pub EntryOf : (table : List ℕ) → Hop → code.Option ℕ → Type 0
EntryOf table h (Some e) = (hop_at e ≡ h) × (is_queue table e ≡ true)
EntryOf table h None = queue_at (table_of table) h ≡ none

-- The hops before hop i, the nearest first.
abbrev pub earlier_than : (entries : List ℕ) (i : ℕ) → List Hop
earlier_than entries i = reverse (take i (map hop_at entries))

-- `Ok` where each hop has a queue, with the entries that name the path; else the index of the first hop without one.
pub record PathLocated (table : List ℕ) (hops : List queues.Hop) (count : ℕ) (r : Result (List ℕ) ℕ) : Type 0 where
  pub first : at_hop 14 (no_queue (table_of table)) [] (line_path hops count) ≡ found_cause 14 (line_path hops count) (result_err r)
  pub within : IfErr r (λ i. i < count)
  pub named : IfOk r (λ entries. map hop_at entries ≡ line_path hops count)
  pub queues : IfOk r (AllQueues table)
