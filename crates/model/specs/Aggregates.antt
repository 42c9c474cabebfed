-- Document 01, "The book": the aggregate of each queue (document 01: its figures), worked out anew from the flows with a hop there.
use Rattle.std.specs.Prelude.{ℕ, suc, ◌+◌, Bool, cond, ◌&&◌, List, [], ◌∷◌, ◌++◌, eqb}
use Rattle.std.proofs.Math.Option.{Option, none, some}
use Rattle.model.specs.Words.{and_then, nth}
use Rattle.model.specs.Total.{total, largest}
use Rattle.model.specs.Formula.{Aggregate, hop_growth, burst_at_hop}
use Rattle.model.specs.QueueTable.{Queue, Link, Table}
use Rattle.model.specs.Orders.{Hop, Flow}

unfoldable pub link_at : Table → ℕ → Option Link
link_at t n = nth t n

-- The queue that a hop names, none where the table has no such queue.
unfoldable pub queue_at : Table → Hop → Option Queue
queue_at t h = and_then (link_at t h.link) λ l. nth l.levels h.level

unfoldable pub threshold_of : Option Queue → ℕ
threshold_of none = 0
threshold_of (some q) = q.threshold

-- A link's speed, in bits per µs.
unfoldable pub speed_of : Option Link → ℕ
speed_of none = 0
speed_of (some l) = l.speed

unfoldable pub fixed_delay_of : Option Link → ℕ
fixed_delay_of none = 0
fixed_delay_of (some l) = l.fixed_delay

unfoldable pub best_effort_of : Option Link → ℕ
best_effort_of none = 0
best_effort_of (some l) = l.best_effort

-- What a flow adds at its source: its rate, its burst and its largest frame.
abbrev pub source : Flow → Aggregate
source f = record { rate = f.rate; burst = f.burst; frame = f.frame }

-- The same at a hop, where S of the earlier ones is `sum`: the burst has grown.
abbrev pub grown : Aggregate → (sum : ℕ) → Aggregate
grown a sum = record { rate = a.rate; burst = burst_at_hop a.rate a.burst sum; frame = a.frame }

-- What a hop adds to S for the hops after it, by the threshold of its queue and the speed of its link.
abbrev pub growth : Table → Hop → ℕ
growth t h = hop_growth (threshold_of (queue_at t h)) (speed_of (link_at t h.link))

-- A flow's share at one of its hops is what it adds there.
pub record Share : Type 0 where
  pub hop : Hop
  pub adds : Aggregate

-- The shares at the hops `path`, before which S is `sum`.
unfoldable pub shares : Table → Flow → (sum : ℕ) → (path : List Hop) → List Share
shares t f sum [] = []
shares t f sum (h ∷ path) =
    record { hop = h; adds = grown (source f) sum } ∷ shares t f (sum + growth t h) path

unfoldable pub all_shares : Table → List Flow → List Share
all_shares t [] = []
all_shares t (f ∷ fs) = shares t f 0 f.path ++ all_shares t fs

unfoldable pub same_hop : Hop → Hop → Bool
same_hop a b = eqb a.link b.link && eqb a.level b.level

-- What a share adds at queue `q`, by a measure of aggregates: 0 at every queue but its own.
unfoldable pub adds_at : Hop → (Aggregate → ℕ) → Share → ℕ
adds_at q measure e = cond (same_hop q e.hop) (measure e.adds) 0

-- What shares add at queue `q`: sum of rates, sum of bursts, largest frame (0 where none).
unfoldable pub shares_at : Hop → List Share → Aggregate
shares_at q es =
    record {
      rate = total (adds_at q (λ a. a.rate)) es;
      burst = total (adds_at q (λ a. a.burst)) es;
      frame = largest (adds_at q (λ a. a.frame)) es;
    }

unfoldable pub aggregate_at : Table → List Flow → Hop → Aggregate
aggregate_at t fs q = shares_at q (all_shares t fs)

-- One aggregate for each of the queues, which are those of link `link` from level `n` on.
unfoldable pub level_aggregates : Table → List Flow → (link n : ℕ) → List Queue → List Aggregate
level_aggregates t fs link n [] = []
level_aggregates t fs link n (q ∷ qs) = aggregate_at t fs (record { link = link; level = n }) ∷ level_aggregates t fs link (suc n) qs
