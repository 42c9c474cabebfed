-- The arrival curve of a queue: what the network shows of a queue's arrivals, and all that one link asks of them.
-- Over any instants up to `h`, s to s + n inclusive, 8000 × bytes is at most 8000 × burst + rate × n. Assumes nothing.
use Rattle.std.specs.Prelude.{ℕ, suc, ◌+◌, ◌*◌, ◌≤◌, ◌≡◌, refl, Bool, true, false, cond}
use Rattle.std.proofs.Common.{arith}
use Rattle.model.specs.Run.{window}
use Rattle.model.proofs.Laws.Run.Windows.{window-mono, window-add, window-zero}

abbrev pub Curve : (h burst rate : ℕ) → (ℕ → ℕ) → Type 0
Curve h burst rate arrivals = (s n : ℕ) → s + n ≤ h → 8000 * window arrivals s (suc n) ≤ 8000 * burst + rate * n

module _ (h : ℕ) where
  pub curve-zero : (b r : ℕ) (f : ℕ → ℕ) → ((x : ℕ) → f x ≡ 0) → Curve h b r f
  curve-zero b r f z s n u = omega (arith, window-zero f s (suc n) (λ x l k. z x))

  pub curve-le : (b r : ℕ) (f g : ℕ → ℕ) → ((x : ℕ) → x ≤ h → f x ≤ g x) → Curve h b r g → Curve h b r f
  curve-le b r f g le c s n u = omega (arith, c s n u, window-mono f g s (suc n) (λ x l k. le x (omega arith)))

  pub curve-add : (b r c d : ℕ) (f g : ℕ → ℕ) → Curve h b r f → Curve h c d g → Curve h (b + c) (r + d) (λ x. f x + g x)
  curve-add b r c d f g k m s n u = omega (arith, k s n u, m s n u, window-add f g s (suc n))

  pub curve-cond : (test : Bool) (b r : ℕ) (f : ℕ → ℕ) → Curve h b r f → Curve h (cond test b 0) (cond test r 0) (λ x. cond test (f x) 0)
  curve-cond true b r f c = c
  curve-cond false b r f c = curve-zero 0 0 (λ x. 0) (λ x. refl)
