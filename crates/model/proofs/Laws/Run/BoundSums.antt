-- The arithmetic of the formulas: burst at a hop, delay and backlog with their quotients multiplied out, and the sums that the two bounds rest on.
-- A bound holds whatever the instants are, as the rate of the level is at most what the levels above leave. Assumes nothing.
use Rattle.std.specs.Prelude.{ℕ, suc, ◌+◌, ◌*◌, ◌-◌, ◌≤◌, ◌<◌, ◌≡◌}
use Rattle.std.proofs.Common.{sym, ap, arith, mul-le-mul_right, le_of_mul-le-mul_right, le_refl}
use Rattle.model.specs.Formula.{burst_at_hop, residual, delay_bound, backlog_bound}
use Rattle.model.proofs.Laws.Formula.{le-ceil_div}

pub burst-covers : (rate burst sum : ℕ) → 8000 * burst + rate * sum ≤ 8000 * burst_at_hop rate burst sum
unfolding burst_at_hop
burst-covers r b s = omega (arith, le-ceil_div (r * s) 8000 _ (omega arith) (le_refl _))

delay-covers : (y burst res threshold : ℕ) → 0 < res → delay_bound y burst res ≤ threshold → 8000 * (y + burst) ≤ threshold * res
unfolding delay_bound
delay-covers y b res t h u = omega (arith, le-ceil_div (8000 * (y + b)) res t h u)

backlog-covers : (q rate burst y res : ℕ) → 0 < res → q * res ≤ burst * res + rate * y → q ≤ backlog_bound rate burst y res
unfolding backlog_bound
backlog-covers q r b y res h u = le_of_mul-le-mul_right (omega (arith, le-ceil_div (r * y) res _ h (le_refl _))) h

residual-is : (speed above : ℕ) → above < 1000 * speed → residual speed above + above ≡ 1000 * speed
unfolding residual
residual-is c ra h = omega arith

-- A busy time that lasts the threshold longer than the time from its beginning to the frame's arrival is too long.
pub delay-sum : (speed above-rate rate above-burst burst blocking frame threshold n v w₁ w₂ : ℕ) → above-rate + rate < 1000 * speed →
    delay_bound (above-burst + blocking + frame) burst (residual speed above-rate) ≤ threshold → v + threshold ≤ suc n →
    8000 * w₁ ≤ 8000 * above-burst + above-rate * n → 8000 * w₂ ≤ 8000 * burst + rate * v →
    1 + speed * suc n ≤ 8 * blocking + 8 * (w₁ + w₂) → ⊥
delay-sum c ra r ba b m f t n v w₁ w₂ rates bound last c₁ c₂ load = sum (residual c ra) (residual-is c ra (omega arith)) bound
  where
    sum : (res : ℕ) → res + ra ≡ 1000 * c → delay_bound (ba + m + f) b res ≤ t → ⊥
    sum res e bound =
        omega (
          arith,
          delay-covers (ba + m + f) b res t (omega arith) bound,
          mul-le-mul_right {m = r} {n = res} v (omega arith),
          mul-le-mul_right res last,
          ap (λ z. z * suc n) e,
        )

-- What is there after a busy time, bounded in two ways: by what came to the level, and by what the link has not yet sent.
pub backlog-sum : (speed above-rate rate above-burst burst blocking frame n q w₁ w₂ z : ℕ) → above-rate + rate < 1000 * speed →
    q ≤ w₂ → 8 * q ≤ z + 8 * frame →
    8000 * w₁ ≤ 8000 * above-burst + above-rate * n → 8000 * w₂ ≤ 8000 * burst + rate * n →
    z + speed * n ≤ 8 * blocking + 8 * (w₁ + w₂) →
    q ≤ backlog_bound rate burst (above-burst + blocking + frame) (residual speed above-rate)
backlog-sum c ra r ba b m f n q w₁ w₂ z rates came own c₁ c₂ load = sum (residual c ra) (residual c ra - r) (residual-is c ra (omega arith)) (omega (
  arith,
  residual-is c ra (omega arith),
))
  where
    sum : (res d : ℕ) → res + ra ≡ 1000 * c → res ≡ r + d → q ≤ backlog_bound r b (ba + m + f) res
    sum res d k e =
        let k₁ : 1000 * c * n ≡ (res + ra) * n = ap (λ i. i * n) (sym k) in
        let k₂ : res * n ≡ (r + d) * n = ap (λ i. i * n) e in
        let k₃ : 8000 * q * d ≤ (8000 * b + r * n) * d = mul-le-mul_right d (omega arith) in
        let k₄ : (8000 * q + d * n) * r ≤ 8000 * (ba + m + f + b) * r = mul-le-mul_right r (omega arith) in
        let k₅ : q * res ≡ q * (r + d) = ap (λ i. q * i) e in
        let k₆ : b * res ≡ b * (r + d) = ap (λ i. b * i) e in
        backlog-covers q r b (ba + m + f) res (omega arith) (omega arith)
