-- What the values of this crate say in the terms of the model.
use Rattle.std.specs.Prelude.{ℕ, ◌^◌, ◌<◌, List, map, Result, Ok, Err}
use Rattle.units.specs.declared.Aggregate.{Aggregate}
use Rattle.units.specs.declared.Bytes.{Bytes}
use Rattle.units.specs.View.{aggregate_of}
use Rattle.model.specs.Formula as model
use Rattle.model.specs.QueueTable as model-table
use Rattle.model.specs.LinkCheck as model-check
use Rattle.queue_table.specs.declared.access.Queue.{Queue}
use Rattle.link_check.specs.declared.OverBound.{OverBound}
use Rattle.link_check.specs.declared.OverBound.TheVariants.{Delay, Backlog}

abbrev pub aggregates_of : List Aggregate → List model.Aggregate
aggregates_of = map aggregate_of

abbrev pub bytes_of : List Bytes → List ℕ
bytes_of = map (λ b. b.0)

abbrev pub queue_of : Queue → model-table.Queue
queue_of q = record { threshold = q.threshold.0; buffer = q.buffer.0 }

abbrev pub queues_of : List Queue → List model-table.Queue
queues_of = map queue_of

-- Both numbers of a queue are of 32 bits, as the table's are.
abbrev pub Narrow : Queue → Type 0
Narrow q = (q.threshold.0 < 2 ^ 32) × (q.buffer.0 < 2 ^ 32)

-- Document 01's code and level.
abbrev pub level_finding_of : Result Unit OverBound → model-check.Finding
level_finding_of (Ok _) = record { code = 0; level = 0 }
level_finding_of (Err (Delay n)) = record { code = 22; level = n }
level_finding_of (Err (Backlog n)) = record { code = 23; level = n }
