-- The bounds of eqs. 12 and 13 grow with the aggregates, whatever the number of levels: a quotient rounded up is at most `c` exactly when the
-- dividend is at most `c` divisors. Assumes nothing.
use Rattle.std.specs.Prelude.{ℕ, suc, ◌+◌, ◌-◌, ◌*◌, ◌≤◌, ◌<◌, List}
use Rattle.std.proofs.Common.{div-lt_iff_lt-mul, mul-le-mul, mul-le-mul_left, le-mul_of_pos_right, le_refl, le_of_suc-le-suc}
use native.Mathlib.Omega.{arith}
use Rattle.model.specs.Words.{Pairs}
use Rattle.model.specs.Total.{total}
use Rattle.model.proofs.Laws.Total.{total_mono, largest-mono}
use Rattle.model.specs.Formula.{Aggregate, ceil_div, shortest_sending, hop_growth, residual, delay_bound, backlog_bound, blocking, interference, level_residual, delay, backlog}

-- Rounded up to at most `c`.
pub ceil_div-le : (a b c : ℕ) → 1 ≤ b → a ≤ c * b → ceil_div a b ≤ c
unfolding ceil_div
ceil_div-le a b c h k = le_of_suc-le-suc ((div-lt_iff_lt-mul {k = b} {x = a + (b - 1)} {y = suc c} h).1 (omega arith))

pub ceil_div-self : (a : ℕ) {b : ℕ} → 1 ≤ b → ceil_div a b ≤ a
ceil_div-self a {b} h = ceil_div-le a b a h (le-mul_of_pos_right a h)

pub le-ceil_div : (a b c : ℕ) → 1 ≤ b → ceil_div a b ≤ c → a ≤ c * b
unfolding ceil_div
le-ceil_div a b c h k =
    let lt : a + (b - 1) < suc c * b = (div-lt_iff_lt-mul {k = b} {x = a + (b - 1)} {y = suc c} h).0 (omega arith) in
    omega arith

pub ceil_div-mono : (a a' b b' : ℕ) → a ≤ a' → 1 ≤ b' → b' ≤ b → ceil_div a b ≤ ceil_div a' b'
ceil_div-mono a a' b b' ha h hb =
    let c : ℕ = ceil_div a' b' in
    let fits : a' ≤ c * b' = le-ceil_div a' b' c h (le_refl c) in
    ceil_div-le a b c (omega arith) (omega (arith, mul-le-mul_left c hb))

-- A hop's part of S is at most its threshold, and at least what the shortest sending time leaves of it.
pub growth-most : (threshold speed : ℕ) → hop_growth threshold speed ≤ threshold
unfolding hop_growth
growth-most threshold speed = omega arith

pub growth-least : (threshold speed : ℕ) → threshold ≤ shortest_sending speed + hop_growth threshold speed
unfolding hop_growth
growth-least threshold speed = omega arith

-- One aggregate is at most another: in rate sum, burst sum and largest frame.
pub record AtMost (a b : Aggregate) : Type 0 where
  pub rate : a.rate ≤ b.rate
  pub burst : a.burst ≤ b.burst
  pub frame : a.frame ≤ b.frame

pub rate-mono : {l m : List Aggregate} → Pairs AtMost l m → total (λ a. a.rate) l ≤ total (λ a. a.rate) m
rate-mono p = total_mono AtMost (λ a. a.rate) (λ x y r. r.rate) p

-- Fewer flows: the level's aggregates and those above and below are at most what they were.
module _ (speed best_effort : ℕ) {above above' below below' : List Aggregate} {own own' : Aggregate}
    (ups : Pairs AtMost above above') (owns : AtMost own own') (downs : Pairs AtMost below below')
    (left : total (λ a. a.rate) above' < 1000 * speed) where
  interference-mono : interference best_effort above own below ≤ interference best_effort above' own' below'
  unfolding interference blocking
  interference-mono =
      omega (
        arith,
        total_mono AtMost (λ a. a.burst) (λ x y r. r.burst) ups,
        largest-mono AtMost (λ a. a.frame) (λ x y r. r.frame) downs,
      )

  residual-mono : (1 ≤ level_residual speed above') × (level_residual speed above' ≤ level_residual speed above)
  unfolding level_residual residual
  residual-mono = omega (arith, rate-mono ups)

  pub delay-mono : delay speed best_effort above own below ≤ delay speed best_effort above' own' below'
  unfolding delay delay_bound
  delay-mono = ceil_div-mono _ _ _ _ (omega (arith, interference-mono)) residual-mono.0 residual-mono.1

  pub backlog-mono : backlog speed best_effort above own below ≤ backlog speed best_effort above' own' below'
  unfolding backlog backlog_bound
  backlog-mono =
      omega (
        arith,
        ceil_div-mono
            (own.rate * interference best_effort above own below)
            (own'.rate * interference best_effort above' own' below')
            (level_residual speed above)
            (level_residual speed above')
            (mul-le-mul owns.rate interference-mono)
            residual-mono.0
            residual-mono.1,
      )
