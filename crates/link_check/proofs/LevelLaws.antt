-- The loop over the levels of a link, one level at a time.
-- Assumes nothing.
use Prim.Native.Nat.{ℕ, ◌+◌, ◌*◌, ◌≤◌, ◌<◌}
use mathlib.Core.Path.{◌≡◌, sym, ap, ◌∙◌}
use mathlib.Core.List.{List, [], ◌∷◌}
use native.Mathlib.Omega.{arith}
use native.Mathlib.Numerals.{add-one}
use lib.ListN.{length, get_or, drop, length-map, get_or-map}
use Rattle.std.specs.Prelude.{Err}
use Rattle.model.specs.Formula as model
use Rattle.model.specs.Total.{total, largest}
use Rattle.model.specs.LinkCheck.{Finding, levels_finding}
use Rattle.model.specs.WithFlow.{together}
use Rattle.model.specs.Laws.LinkSteps.{level_finding, blockings}
use Rattle.model.proofs.Laws.LinkSteps.{blockings-at, Passed, passed-room, passed-next, passed-found}
use Rattle.units.specs.declared.Aggregate.{Aggregate}
use Rattle.units.specs.declared.Bytes.{Bytes}
use Rattle.units.specs.View.{aggregate_of}
use Rattle.queue_table.specs.declared.access.Queue.{Queue}
use Rattle.link_check.specs.declared.OverBound.{OverBound}
use Rattle.link_check.specs.View.{aggregates_of, bytes_of, queue_of, queues_of, level_finding_of}
use Rattle.link_check.proofs.FindingLaws.{faulty}
use Rattle.link_check.proofs.Laws.{mapped_next, blank, level-next}

-- What is read past the end of the queues, and of what may block.
abbrev pub no_queue : Queue
no_queue = record { threshold = record { 0 = 0 }; buffer = record { 0 = 0 } }

abbrev pub no_bytes : Bytes
no_bytes = record { 0 = 0 }

-- The level at `i`: its queue, its figures and what may block it, which was worked out with the best-effort frame `alone`.
module _ (speed alone : ℕ) (queues : List Queue) (levels : List Aggregate) (blocked : List Bytes) (i : ℕ) {above : Aggregate}
    (passed : Passed speed alone (queues_of queues) (aggregates_of levels) i (aggregate_of above))
    (worked : bytes_of blocked ≡ blockings alone (aggregates_of levels)) (in-queues : i < length queues) (in-levels : i < length levels) where
  queue-at : drop i (queues_of queues) ≡ queue_of (get_or queues i no_queue) ∷ drop (i + 1) (queues_of queues)
  queue-at = mapped_next queue_of queues i no_queue in-queues

  own-at : drop i (aggregates_of levels) ≡ aggregate_of (get_or levels i blank) ∷ drop (i + 1) (aggregates_of levels)
  own-at = level-next levels i in-levels

  blocked-at : (get_or blocked i no_bytes).0 ≡ model.blocking alone (drop (i + 1) (aggregates_of levels))
  blocked-at =
      rw (add-one i)
      (sym (get_or-map (λ b. b.0) blocked i no_bytes)
      ∙ ap (λ (l : List ℕ). get_or l i 0) worked
      ∙ blockings-at alone (aggregates_of levels) i (simp length-map (omega arith)))

  pub level-room : (above.rate.0 + (get_or levels i blank).rate.0 ≤ total (λ a. a.rate) (aggregates_of levels))
      × (above.burst.0 + (get_or blocked i no_bytes).0 + (get_or levels i blank).frame.0 + (get_or levels i blank).burst.0
      ≤ total (λ a. a.burst) (aggregates_of levels) + 2 * largest (λ a. a.frame) (aggregates_of levels) + alone)
  level-room = (omega (arith, passed-room passed queue-at own-at), omega (arith, passed-room passed queue-at own-at, blocked-at))

  -- What the check of this level finds.
  abbrev level-found : Finding
  level-found = level_finding speed (i + 1) (queue_of (get_or queues i no_queue)) (aggregate_of above) (aggregate_of (get_or levels i blank)) (get_or blocked i no_bytes).0

  pub level-over : (over : OverBound) → level_finding_of (Err over) ≡ level-found
      → level_finding_of (Err over) ≡ levels_finding speed alone 1 [] (queues_of queues) (aggregates_of levels)
  level-over over found =
      sym (passed-found passed queue-at own-at (level_finding_of (Err over)) (rw blocked-at at (sym found)) (faulty over))

  pub level-fits : {after : Aggregate} → record { code = 0; level = 0 } ≡ level-found → aggregate_of after ≡ together (aggregate_of above) (aggregate_of (get_or levels i blank))
      → Passed speed alone (queues_of queues) (aggregates_of levels) (i + 1) (aggregate_of after)
  level-fits fits counted = rw counted (passed-next passed queue-at own-at (rw blocked-at at (sym fits)))
