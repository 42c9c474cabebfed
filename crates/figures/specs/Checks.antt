-- What the check of a path's links answers, whatever figures it takes at the path's queues.
use Rattle.std.specs.Prelude.{ℕ, ◌+◌, ◌*◌, ◌≤◌, ◌<◌, ◌≡◌, List, map, length, get_or, take, Result}
use Rattle.model.specs.Words.{All}
use Rattle.model.specs.Sizes.{levels_most}
use Rattle.model.specs.Orders.{Flow}
use Rattle.model.specs.Formula as model
use Rattle.model.specs.Aggregates.{level_aggregates}
use Rattle.model.specs.Schedulable.{Named}
use Rattle.model.specs.Reference.{link_findings, first_cause}
use Rattle.model.proofs.Laws.Aggregates.{growth_sum}
use Rattle.units.specs.declared.Aggregate.{Aggregate}
use Rattle.units.specs.declared.Micros.{Micros}
use Rattle.units.specs.View.{aggregate_of}
use Rattle.queue_table.specs.View.{up_to, link_in, queue_at, table_of, hop_at, WellFormed}
use Rattle.causes.specs.declared.Cause as code
use Rattle.causes.specs.View.{finding_of}
use Rattle.figures.specs.View.{levels_with, OnTable}

-- The path has a hop `i`, and S over the hops before it is `sum`.
pub record SumAt (table entries : List ℕ) (i sum : ℕ) : Type 0 where
  pub inside : i < length entries
  pub below : sum ≤ i * 100000
  pub is : OnTable table entries → sum ≡ growth_sum (table_of table) (map hop_at (take i entries))

-- What the flows have at the eight levels of a link, counted from 0.
abbrev pub eight_of : (table : List ℕ) (fs : List Flow) (link : ℕ) → List model.Aggregate
eight_of table fs i = level_aggregates (table_of table) fs (i + 1) 1 (up_to levels_most (queue_at table i))

-- The levels of each link on the path, with figures at the path's queue that `gives` allows, are those of the flows. `gives` takes the queue and S over the hops before.
pub record Met (gives : ℕ → Micros → Aggregate → Type 0) (table figures entries : List ℕ) (gs : List Flow) : Type 0 where
  pub well : WellFormed table
  pub path : OnTable table entries
  pub on : All (λ g. All (Named (table_of table)) g.path) gs
  pub levels : (i : ℕ) (sum : Micros) (own : Aggregate) → SumAt table entries i sum.0 → let e : ℕ = get_or entries i 0 in
      gives e sum own → eight_of table gs (link_in e) ≡ levels_with figures e (aggregate_of own)

-- The first of 21 to 23 along the path with those flows.
abbrev pub Answered : (gives : ℕ → Micros → Aggregate → Type 0) (table figures entries : List ℕ) (r : Result (Unit {0}) code.Cause) → Type 0
Answered gives table figures entries r =
    (gs : List Flow) → Met gives table figures entries gs → finding_of r ≡ first_cause (link_findings (table_of table) gs (map hop_at entries))
