-- W-207: the gate at a sender, source 002's "Shaping": a token bucket that lets a frame pass or drops it. Tokens are 8000ths of a byte, so that a µs at so many kbit/s
-- adds as many whole ones. The clock is a µs counter of 32 bits.
use Rattle.std.specs.Prelude.{ℕ, ◌+◌, ◌-◌, ◌*◌, ◌%◌, ◌^◌, min, Bool, cond, ◌&&◌, leb}
use Rattle.model.specs.Columns.{between}
use Rattle.model.specs.Orders.{rate_in_range, burst_in_range, frame_in_range}

-- Rate in kbit/s, burst and largest frame in bytes, as registered; the tokens that are there, and the last reading.
pub record Gate : Type 0 where
  pub rate : ℕ
  pub burst : ℕ
  pub frame : ℕ
  pub tokens : ℕ
  pub reading : ℕ

-- One turn of the clock: it rolls over to zero after 4,294,967,295.
abbrev pub turn : ℕ
turn = 2 ^ 32

-- The time passed between two readings, taken round that corner.
unfoldable pub time_passed : (last now : ℕ) → ℕ
time_passed last now = (now + (turn - last)) % turn

-- The tokens that so many bytes take, and those of a full bucket.
unfoldable pub tokens_of : (bytes : ℕ) → ℕ
tokens_of bytes = 8000 * bytes

abbrev pub full_of : Gate → ℕ
full_of g = tokens_of g.burst

-- Else 61: numbers that an order line may have, a largest frame that the burst holds, and no more tokens than a full bucket.
unfoldable pub gate_in_range : Gate → Bool
gate_in_range g =
    rate_in_range g.rate && burst_in_range g.burst && frame_in_range g.frame && leb g.frame g.burst && leb g.tokens (full_of g)

-- Else 60: from the smallest frame to the largest registered one.
unfoldable pub length_in_range : Gate → (length : ℕ) → Bool
length_in_range g length = between 84 g.frame length

-- What the gate answers, 0 passed, 1 dropped, 60 or 61; and the gate then.
pub record GateAnswer : Type 0 where
  pub code : ℕ
  pub gate : Gate

-- With so many tokens at this reading.
unfoldable pub gate_with : Gate → (tokens now : ℕ) → Gate
gate_with g tokens now = record { rate = g.rate; burst = g.burst; frame = g.frame; tokens = tokens; reading = now }

-- The tokens at a reading: rate × the time passed is added, never above full.
unfoldable pub tokens_at : Gate → (now : ℕ) → ℕ
tokens_at g now = min (full_of g) (g.tokens + g.rate * time_passed g.reading now)

-- A frame passes where its tokens are there, which are then taken; else it is dropped. Either way the reading and the tokens are stored.
unfoldable pub metered : Gate → (length now there : ℕ) → GateAnswer
metered g length now there =
    cond (leb (tokens_of length) there)
    (record { code = 0; gate = gate_with g (there - tokens_of length) now })
    (record { code = 1; gate = gate_with g there now })

-- An offer of a frame of so many bytes at a reading. A refused one leaves the gate as it was.
unfoldable pub offer : Gate → (length now : ℕ) → GateAnswer
offer g length now =
    cond (gate_in_range g)
    (cond (length_in_range g length) (metered g length now (tokens_at g now)) (record { code = 60; gate = g }))
    (record { code = 61; gate = g })

-- No gate: an offer to it is 61.
unfoldable pub no_gate : Gate
no_gate = record { rate = 0; burst = 0; frame = 0; tokens = 0; reading = 0 }

unfoldable pub opened_with : Gate → GateAnswer
opened_with g = cond (gate_in_range g) (record { code = 0; gate = g }) (record { code = 61; gate = no_gate })

-- A gate with these numbers, full.
abbrev pub full_gate : (rate burst frame now : ℕ) → Gate
full_gate rate burst frame now = record { rate = rate; burst = burst; frame = frame; tokens = tokens_of burst; reading = now }

-- A gate is opened full.
unfoldable pub open_gate : (rate burst frame now : ℕ) → GateAnswer
open_gate rate burst frame now = opened_with (full_gate rate burst frame now)
