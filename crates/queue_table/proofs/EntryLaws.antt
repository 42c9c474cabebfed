-- The queue that a hop entry names, in the model's table. By dividing the entry by 8.
-- Assumes nothing.
use Prim.Native.Nat.{ℕ, ◌≤◌, ◌<◌}
use mathlib.Core.Path.{◌≡◌, ap, ◌∙◌}
use mathlib.Core.Bool.{true}
use mathlib.Core.List.{List}
use mathlib.Core.Option.{some}
use native.Mathlib.Nat.{div-add-mod, mod-lt}
use native.Mathlib.Omega.{arith}
use lib.Dec.{ltb}
use borrow.Author.Tests.{ltb-true}
use Rattle.model.specs.Sizes.{links_most, levels_most, queues_most}
use Rattle.model.specs.Aggregates as model
use Rattle.model.proofs.Laws.Test.{and_both}
use Rattle.queue_table.specs.View.{entry_at, link_in, level_in, queue_at, link_count, levels_at, speed_at, fixed_delay_at, threshold_at, link_at, table_of, hop_at, is_queue}
use Rattle.queue_table.proofs.LookupLaws.{link-found, queue-found}

-- An entry is that of its link and level.
pub entry-same : (e : ℕ) → entry_at (link_in e) (level_in e) ≡ e
entry-same e = omega (arith, div-add-mod e levels_most)

module _ (table : List ℕ) (e : ℕ) (named : is_queue table e ≡ true) where
  pub queue-within : (link_in e < link_count table) × (level_in e < levels_at table (link_in e))
  unfolding is_queue
  queue-within =
      let (link, level) = and_both (ltb (link_in e) (link_count table)) (ltb (level_in e) (levels_at table (link_in e))) named in
      (ltb-true (link_in e) (link_count table) link, ltb-true (level_in e) (levels_at table (link_in e)) level)

  pub queue-low : link_count table ≤ links_most → e < queues_most
  queue-low few = omega (arith, queue-within.0, div-add-mod e levels_most, mod-lt e {m = levels_most} (omega arith))

  pub queue-named : model.queue_at (table_of table) (hop_at e) ≡ some (queue_at table (link_in e) (level_in e))
  unfolding hop_at
  queue-named = queue-found table (link_in e) (level_in e) queue-within.0 queue-within.1

  pub threshold-named : model.threshold_of (model.queue_at (table_of table) (hop_at e)) ≡ threshold_at table e
  unfolding model.threshold_of queue_at
  threshold-named = ap model.threshold_of queue-named ∙ ap (threshold_at table) (entry-same e)

  pub speed-named : model.speed_of (model.link_at (table_of table) (hop_at e).link) ≡ speed_at table (link_in e)
  unfolding model.speed_of hop_at link_at
  speed-named = ap model.speed_of (link-found table (link_in e) queue-within.0)

  pub fixed_named : model.fixed_delay_of (model.link_at (table_of table) (hop_at e).link) ≡ fixed_delay_at table (link_in e)
  unfolding model.fixed_delay_of hop_at link_at
  fixed_named = ap model.fixed_delay_of (link-found table (link_in e) queue-within.0)
