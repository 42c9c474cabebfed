-- Mission, line 2, in document 01's whole units: what the threshold-based model asks of a new flow (eqs. 12 to 15), apart from any search for causes.
use Rattle.std.specs.Prelude.{ℕ, suc, ◌-◌, ◌*◌, ◌≤◌, ◌<◌, ◌≡◌, take, drop}
use mathlib.Core.List.{List, ◌∷◌, Memᴰ}
use Rattle.std.proofs.Math.Option.{some}
use Rattle.model.specs.Words.{nth}
use Rattle.model.specs.Total.{total}
use Rattle.model.specs.Formula.{Aggregate, delay, backlog}
use Rattle.model.specs.QueueTable.{Queue, Link, Table}
use Rattle.model.specs.Orders.{Hop, Flow}
use Rattle.model.specs.Aggregates.{link_at, aggregate_at, level_aggregates}
use Rattle.model.specs.Reference.{path_delay}

-- One of the flows has a hop at the queue.
pub record Carries (fs : List Flow) (q : Hop) : Type 0 where
  pub flow : Flow
  pub among : Memᴰ flow fs
  pub hop : Memᴰ q flow.path

module _ (t : Table) (fs : List Flow) (n : ℕ) (k : Link) where
  -- The aggregates of level `p` of link `n`, of the levels above it and of those below it.
  unfoldable pub own : (p : ℕ) → Aggregate
  own p = aggregate_at t fs (record { link = n; level = p })

  unfoldable pub above : (p : ℕ) → List Aggregate
  above p = level_aggregates t fs n 1 (take (p - 1) k.levels)

  unfoldable pub below : (p : ℕ) → List Aggregate
  below p = level_aggregates t fs n (suc p) (drop p k.levels)

  -- Eq. 15 at level `p`, whose queue is `q`: delay (eq. 12) within the threshold, backlog (eq. 13) within the buffer.
  pub record LevelAdmits (p : ℕ) (q : Queue) : Type 0 where
    pub threshold : delay k.speed k.best_effort (above p) (own p) (below p) ≤ q.threshold
    pub buffer : backlog k.speed k.best_effort (above p) (own p) (below p) ≤ q.buffer

  -- The rate rule, and eq. 15 at each level that carries a flow.
  pub record LinkAdmits : Type 0 where
    pub rate : total (λ a. a.rate) (level_aggregates t fs n 1 k.levels) < 1000 * k.speed
    pub levels : (p : ℕ) (q : Queue) → nth k.levels p ≡ some q → Carries fs (record { link = n; level = p }) → LevelAdmits p q

-- The new flow `f` beside the held ones: the thresholds and fixed delays along the path don't sum above the deadline (eq. 14), and each
-- link on the path admits all flows, the new one counted in.
pub record Admissible (t : Table) (held : List Flow) (f : Flow) : Type 0 where
  pub deadline : path_delay t f.path ≤ f.deadline
  pub links : (h : Hop) (k : Link) → Memᴰ h f.path → link_at t h.link ≡ some k → LinkAdmits t (f ∷ held) h.link k
