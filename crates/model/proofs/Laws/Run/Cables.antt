-- Cables: what is on one left its link less than the fixed delay ago, and what comes off it left just that long ago; by weight, nothing is lost on the way.
-- By induction on the delay and on the links. Assumes nothing.
use Prim.Native.Nat.{ℕ, zero, suc, ◌+◌, ◌-◌, ◌≤◌, ◌<◌}
use Rattle.std.specs.Prelude.{◌≡◌, Bool, List, [], ◌++◌}
use Rattle.std.proofs.Math.Path.{refl, ap}
use Rattle.std.proofs.Common.{ap₂, ◌∙◌}
use Rattle.std.proofs.Math.Bool.{true, false, cond}
use native.Mathlib.Omega.{arith}
use Rattle.std.proofs.Math.Dec.{leb, leb-zero, leb-suc-zero, leb-suc-suc}
use borrow.Author.Tests.{leb-true}
use Rattle.model.specs.Words.{All}
use Rattle.model.specs.Total.{total}
use Rattle.model.specs.QueueTable.{Table}
use Rattle.model.specs.Aggregates.{link_at, fixed_delay_of}
use Rattle.model.specs.Run.{Frame, History, left_ago, handed_on, window}
use Rattle.model.specs.Delivery.{left_since}
use Rattle.model.proofs.Laws.All.{all_append}
use Rattle.model.proofs.Laws.Total.{total-append}

-- What is on its way from a link has left it at an earlier instant, or now.
module _ (P : Frame → Type 0) (before : History) where
  ago-all : (n x ago : ℕ) → ((y : ℕ) → y + ago ≡ x → All P (before y n).left) → All P (left_ago before n x ago)
  unfolding left_ago
  ago-all n x ago h = go (leb ago x) refl
    where
      go : (b : Bool) → leb ago x ≡ b → All P (cond b (before (x - ago) n).left [])
      go true e = h (x - ago) (omega (arith, leb-true ago x e))
      go false e = tt

  pub since-all : (n x d : ℕ) → ((y : ℕ) → y ≤ x → x < y + d → All P (before y n).left) → All P (left_since before n x d)
  unfolding left_since
  since-all n x zero h = tt
  since-all n x (suc d) h =
      all_append P (left_since before n x d) (left_ago before n x d) (since-all n x d (λ y u v. h y u (omega arith)))
      (ago-all n x d (λ y e. h y (omega (arith, e)) (omega (arith, e))))

  pub handed-all : (t : Table) (x : ℕ) → ((n y : ℕ) → y + fixed_delay_of (link_at t n) ≡ x → All P (before y n).left) → (n : ℕ) → All P (handed_on t before x n)
  unfolding handed_on
  handed-all t x h zero = tt
  handed-all t x h (suc n) =
      let d : ℕ = fixed_delay_of (link_at t (suc n)) in
      all_append P (handed_on t before x n) (left_ago before (suc n) x d) (handed-all t x h n) (ago-all (suc n) x d (h (suc n)))

-- A cable, instant by instant: what leaves the link comes onto it, and what it hands on goes off it.
module _ (m : Frame → ℕ) (before : History) (n : ℕ) where
  left-now : (x : ℕ) → left_ago before n x 0 ≡ (before x n).left
  unfolding left_ago
  left-now x = ap (λ b. cond b (before (x - 0) n).left []) (leb-zero x) ∙ ap (λ y. (before y n).left) (omega arith)

  left-next : (x ago : ℕ) → left_ago before n (suc x) (suc ago) ≡ left_ago before n x ago
  unfolding left_ago
  left-next x ago =
      ap (λ b. cond b (before (suc x - suc ago) n).left []) (leb-suc-suc ago x) ∙ ap (λ y. cond (leb ago x) (before y n).left []) (omega arith)

  left-first : (ago : ℕ) → left_ago before n 0 (suc ago) ≡ []
  unfolding left_ago
  left-first ago = ap (λ b. cond b (before (0 - suc ago) n).left []) (leb-suc-zero ago)

  pub cable-step : (x d : ℕ) → total m (left_since before n (suc x) d) + total m (left_ago before n (suc x) d)
      ≡ total m (before (suc x) n).left + total m (left_since before n x d)
  unfolding left_since total
  cable-step x zero = omega (arith, ap (total m) (left-now (suc x)))
  cable-step x (suc d) =
      omega (
        arith,
        total-append m (left_since before n (suc x) d) (left_ago before n (suc x) d),
        total-append m (left_since before n x d) (left_ago before n x d),
        ap (total m) (left-next x d),
        cable-step x d,
      )

  pub cable-first : (d : ℕ) → total m (left_since before n 0 d) + total m (left_ago before n 0 d) ≡ total m (before 0 n).left
  unfolding left_since total
  cable-first zero = omega (arith, ap (total m) (left-now 0))
  cable-first (suc d) =
      omega (arith, total-append m (left_since before n 0 d) (left_ago before n 0 d), ap (total m) (left-first d), cable-first d)

-- What all cables hand on, link by link.
pub handed-total : (m : Frame → ℕ) (t : Table) (before : History) (x n : ℕ) →
    total m (handed_on t before x n) ≡ window (λ k. total m (left_ago before k x (fixed_delay_of (link_at t k)))) 1 n
unfolding handed_on window total
handed-total m t before x zero = refl
handed-total m t before x (suc n) =
    let by : ℕ → ℕ = λ k. total m (left_ago before k x (fixed_delay_of (link_at t k))) in
    let e : by (suc n) ≡ by (1 + n) = ap by (omega arith) in
    omega (arith, total-append m (handed_on t before x n) (left_ago before (suc n) x (fixed_delay_of (link_at t (suc n)))), handed-total m t before x n)

-- Histories that agree up to instant `x` hand on the same at `x`.
pub handed-same : (t : Table) (before before' : History) (x : ℕ) → ((y n : ℕ) → y ≤ x → before y n ≡ before' y n)
    → (n : ℕ) → handed_on t before x n ≡ handed_on t before' x n
unfolding handed_on left_ago
handed-same t before before' x h zero = refl
handed-same t before before' x h (suc n) =
    let d : ℕ = fixed_delay_of (link_at t (suc n)) in
    ap₂ (λ (l m : List Frame). l ++ m) (handed-same t before before' x h n) (ap (λ l. cond (leb d x) l.left []) (h (x - d) (suc n) (omega arith)))
