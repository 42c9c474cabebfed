-- What the rules 2, 14, 20 and 21 to 23 say of a table and the flows held on it, as far as the run asks.
use Rattle.std.specs.Prelude.{ℕ, ◌≤◌, ◌≡◌, List}
use Rattle.std.proofs.Math.Option.{some}
use Rattle.model.specs.Words.{All}
use Rattle.model.specs.QueueTable.{Queue, Link, Table}
use Rattle.model.specs.Orders.{Hop, Flow}
use Rattle.model.specs.LinkCheck.{link_finding}
use Rattle.model.specs.Aggregates.{link_at, queue_at, level_aggregates}
use Rattle.model.specs.Reference.{path_delay}

-- The link of a hop meets the rate rule, and each of its levels that carries a flow meets eq. 15.
pub record LinkMeets (t : Table) (fs : List Flow) (link : ℕ) : Type 0 where
  pub meets : (k : Link) → link_at t link ≡ some k → (link_finding k.speed k.best_effort k.levels (level_aggregates t fs link 1 k.levels)).code ≡ 0

-- A hop names a queue of the table.
pub record Named (t : Table) (h : Hop) : Type 0 where
  pub queue : Queue
  pub found : queue_at t h ≡ some queue

pub record FlowMeets (t : Table) (fs : List Flow) (f : Flow) : Type 0 where
  pub queues : All (Named t) f.path
  pub links : All (λ h. LinkMeets t fs h.link) f.path
  pub deadline : path_delay t f.path ≤ f.deadline

pub record Schedulable (t : Table) (fs : List Flow) : Type 0 where
  pub thresholds : (h : Hop) (q : Queue) → queue_at t h ≡ some q → 1 ≤ q.threshold
  pub flows : All (FlowMeets t fs) fs
