-- Document 01, "At each instant of every such run ..": that no frame is late at a queue, and no queue overflows. `Results` has the theorem.
use Rattle.std.specs.Prelude.{ℕ, ◌+◌, ◌≤◌, ◌<◌, List}
use Rattle.model.specs.Words.{All}
use Rattle.model.specs.Total.{total}
use Rattle.model.specs.QueueTable.{Queue, Table}
use Rattle.model.specs.Orders.{Hop, Flow}
use Rattle.model.specs.Run.{Run, in_queue}

-- The queue `q`, which hop `h` names, at instant `n`, with the frames in it that wait or are under way:
-- one that came as many µs ago as the threshold, or more, has left it; after the instant's arrivals the bytes in it are at most the buffer.
pub record Punctual (t : Table) (fs : List Flow) (r : Run t fs) (n : ℕ) (h : Hop) (q : Queue) : Type 0 where
  pub not_late : All (λ f. n < f.since + q.threshold) (in_queue h.level (r.before n h.link))
  pub fits : total (λ f. f.length) (in_queue h.level (r.after n h.link)) ≤ q.buffer
