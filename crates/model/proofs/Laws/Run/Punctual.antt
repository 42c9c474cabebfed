-- No frame is late and no queue overflows, at each instant of every run of conforming sources, however long: for every queue of the table, carrying a flow or not.
-- The network shows the arrival curve of each queue, each link the two bounds from it; induction over instants joins them. Assumes nothing.
use Rattle.std.specs.Prelude.{ℕ, ◌≡◌, List}
use Rattle.std.proofs.Math.Option.{some}
use Rattle.model.specs.QueueTable.{Queue, Table}
use Rattle.model.specs.Orders.{Hop, Flow}
use Rattle.model.specs.Aggregates.{queue_at}
use Rattle.model.specs.Schedulable.{Schedulable}
use Rattle.model.specs.Run.{Run, Conforming}
use Rattle.model.specs.Punctual.{Punctual}
use Rattle.model.proofs.Laws.Run.NotLate.{never-late, always-fits}

pub punctual : (t : Table) (fs : List Flow) → Schedulable t fs → (r : Run t fs) → Conforming fs r.sent →
    (n : ℕ) (h : Hop) (q : Queue) → queue_at t h ≡ some q → Punctual t fs r n h q
punctual t fs schedulable r conforming n h q e =
    record { not_late = never-late t fs schedulable r conforming n h q e; fits = always-fits t fs schedulable r conforming n h q e }
