-- Document 01, "The book": the threshold-based model in whole units. Bytes on the wire, kbit/s, µs; a link's speed in Mbit/s.
-- The equations are those of source 000. Requests W-202, W-208: the link's best-effort frame, a hop's part of S.
use Rattle.std.specs.Prelude.{ℕ, ◌+◌, ◌-◌, ◌*◌, ◌/◌, max, Bool, List, ltb}
use Rattle.model.specs.Total.{total, largest}

-- The quotient rounded up.
unfoldable pub ceil_div : ℕ → ℕ → ℕ
ceil_div a b = (a + (b - 1)) / b

-- The shortest sending time, µs: the smallest frame has 672 bits (84 bytes), and a link of `speed` Mbit/s sends so many bits per µs.
unfoldable pub shortest_sending : (speed : ℕ) → ℕ
shortest_sending speed = ceil_div 672 speed

-- A hop's part of S: a frame can't leave a queue sooner than that, so only the rest of the threshold can bunch frames; never below zero.
unfoldable pub hop_growth : (threshold speed : ℕ) → ℕ
hop_growth threshold speed = threshold - shortest_sending speed

-- Burst at a hop: `sum` is S, the sum of the earlier hops' parts, rounded once (section III).
unfoldable pub burst_at_hop : (rate burst sum : ℕ) → ℕ
burst_at_hop rate burst sum = burst + ceil_div (rate * sum) 8000

-- Res: what the levels above leave of the link.
unfoldable pub residual : (speed above : ℕ) → ℕ
residual speed above = 1000 * speed - above

-- The rate rule: the rate sum of all levels of a link stays below its speed.
unfoldable pub within_rate : (speed sum : ℕ) → Bool
within_rate speed sum = ltb sum (1000 * speed)

-- Delay, µs (eq. 12): `y` is Y, `burst` the burst sum of the level, `res` its Res.
unfoldable pub delay_bound : (y burst res : ℕ) → ℕ
delay_bound y burst res = ceil_div (8000 * (y + burst)) res

-- Backlog, bytes (eq. 13).
unfoldable pub backlog_bound : (rate burst y res : ℕ) → ℕ
backlog_bound rate burst y res = burst + ceil_div (rate * y) res

-- The aggregate of a queue (document 01: its figures): rate sum, burst sum and largest frame, 0 where none.
pub record Aggregate : Type 0 where
  pub rate : ℕ
  pub burst : ℕ
  pub frame : ℕ

-- A level of a link stands between those above it (served first) and those below it.
-- Blocking: what is under way isn't broken off. It may be of a level below, or a best-effort frame, and then at the last level too: the larger of the two.
unfoldable pub blocking : (best_effort : ℕ) (below : List Aggregate) → ℕ
blocking best_effort below = max (largest (λ a. a.frame) below) best_effort

-- Y: burst sums above, blocking, and the level's own largest frame.
unfoldable pub interference : (best_effort : ℕ) (above : List Aggregate) (own : Aggregate) (below : List Aggregate) → ℕ
interference best_effort above own below = total (λ a. a.burst) above + blocking best_effort below + own.frame

unfoldable pub level_residual : (speed : ℕ) (above : List Aggregate) → ℕ
level_residual speed above = residual speed (total (λ a. a.rate) above)

unfoldable pub delay : (speed best_effort : ℕ) (above : List Aggregate) (own : Aggregate) (below : List Aggregate) → ℕ
delay speed best_effort above own below = delay_bound (interference best_effort above own below) own.burst (level_residual speed above)

unfoldable pub backlog : (speed best_effort : ℕ) (above : List Aggregate) (own : Aggregate) (below : List Aggregate) → ℕ
backlog speed best_effort above own below = backlog_bound own.rate own.burst (interference best_effort above own below) (level_residual speed above)
