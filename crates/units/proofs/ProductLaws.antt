-- The bounds held against a threshold and a buffer by products. By the model's laws of a quotient rounded up.
-- Assumes nothing.
use Prim.Native.Nat.{ℕ, ◌+◌, ◌-◌, ◌*◌, ◌≤◌}
use mathlib.Core.Path.{◌≡◌, refl, sym}
use mathlib.Core.Bool.{Bool, true, false}
use native.Mathlib.Omega.{arith}
use lib.Dec.{leb}
use borrow.Author.Tests.{leb-true, leb-false, le-leb, lt-leb}
use Rattle.model.specs.Formula.{delay_bound, backlog_bound}
use Rattle.model.proofs.Laws.Formula.{ceil_div-le, le-ceil_div}

-- Two comparisons of which each says the other.
same-order : (a b c d : ℕ) → (a ≤ b → c ≤ d) → (c ≤ d → a ≤ b) → leb a b ≡ leb c d
same-order a b c d f g = go (leb a b) refl
  where
    go : (t : Bool) → leb a b ≡ t → t ≡ leb c d
    go true e = sym (le-leb c d (f (leb-true a b e)))
    go false e = let above : c ≤ d → ⊥ = λ h. omega (arith, g h, leb-false a b e) in sym (lt-leb c d (omega (arith, above)))

pub delay-within : (y b r t : ℕ) → 1 ≤ r → leb (8000 * (y + b)) (t * r) ≡ leb (delay_bound y b r) t
unfolding delay_bound
delay-within y b r t h = same-order (8000 * (y + b)) (t * r) (delay_bound y b r) t (ceil_div-le (8000 * (y + b)) r t h) (le-ceil_div (8000 * (y + b)) r t h)

pub backlog-within : (r b y c t : ℕ) → 1 ≤ c → b ≤ t → leb (r * y) ((t - b) * c) ≡ leb (backlog_bound r b y c) t
unfolding backlog_bound
backlog-within r b y c t h k =
    same-order (r * y) ((t - b) * c) (backlog_bound r b y c) t
    (λ e. omega (arith, ceil_div-le (r * y) c (t - b) h e))
    (λ e. le-ceil_div (r * y) c (t - b) h (omega (arith, e)))
