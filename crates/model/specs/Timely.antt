-- What is promised of the flows held on a table. `Results` has the theorem: it holds for the flows of every consistent state.
use Rattle.std.specs.Prelude.{ℕ, ◌≡◌, List}
use Rattle.std.proofs.Math.Option.{some}
use Rattle.std.proofs.Math.ListN.{get_elem?}
use Rattle.model.specs.Words.{All}
use Rattle.model.specs.QueueTable.{Queue, Table}
use Rattle.model.specs.Orders.{Hop, Flow}
use Rattle.model.specs.Aggregates.{queue_at}
use Rattle.model.specs.Run.{Run, Conforming}
use Rattle.model.specs.Punctual.{Punctual}
use Rattle.model.specs.Delivery.{delivered, InTime, NoneLost, Arrives}

pub record Timely (t : Table) (fs : List Flow) : Type 0 where
  -- No frame is late: in every run of conforming sources, at every instant and in every queue of the table, carrying a flow or not, a frame that came as
  -- many µs ago as the threshold, or more, has left, and the bytes in the queue are at most its buffer.
  pub punctual : (r : Run t fs) → Conforming fs r.sent → (x : ℕ) (h : Hop) (q : Queue) → queue_at t h ≡ some q → Punctual t fs r x h q
  -- End to end: a frame that reaches its destination does so at most the sum of its path's thresholds and fixed delays, and at most its deadline, after its
  -- source sent it.
  pub in_time : (r : Run t fs) → Conforming fs r.sent → (x : ℕ) → All (InTime t fs x) (delivered r x)
  -- No frame is lost: in every run, whether its sources conform or not, at every instant the frames that they have sent so far are, each once, in the
  -- queue of a hop of their path, waiting or under way, or on the cable behind it, or at their destination.
  pub none_lost : (r : Run t fs) (x : ℕ) → NoneLost r x
  -- So every frame arrives: once the sum of its path's thresholds and fixed delays has passed since it was sent, or its deadline, it has reached its destination.
  pub arrives : (r : Run t fs) → Conforming fs r.sent → (j : ℕ) (flow : Flow) → get_elem? fs j ≡ some flow → Arrives r j flow
