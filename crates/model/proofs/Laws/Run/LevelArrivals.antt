-- One link, one level: what the arrivals of an instant add to the frames of the level and of the levels above. Assumes nothing.
use Rattle.std.specs.Prelude.{ℕ, suc, ◌+◌, ◌≤◌, ◌<◌, ◌≡◌, Bool, true, false, List, ltb, leb, eqb}
use Rattle.std.proofs.Math.Path.{ap}
use Rattle.std.proofs.Common.{◌∙◌, le-ltb, ne_eqb}
use Rattle.std.proofs.Math.Bool.{cond}
use native.Mathlib.Omega.{arith}
use Rattle.model.specs.Words.{All}
use Rattle.model.specs.Total.{total}
use Rattle.model.specs.Run.{Frame, window}
use Rattle.model.proofs.Laws.Total.{total-each, total-add, total-cond}
use Rattle.model.proofs.Laws.Test.{cond-le}
use Rattle.model.proofs.Laws.Run.Windows.{window-mono, window-add, window-within, window-at}
use Rattle.model.proofs.Laws.Run.Workload.{counts, whole}

-- The frames of level `p` that came up to instant `a`.
unfoldable pub own : (p a n : ℕ) → Frame → ℕ
own p a n f = cond (eqb n p) (cond (leb f.since a) f.length 0) 0

pub own-whole : (p a n : ℕ) (f : Frame) → own p a n f ≤ whole p a n f
unfolding own whole counts
own-whole p a n f = go (ltb n p) (eqb n p) (leb f.since a)
  where
    go : (b c d : Bool) → cond c (cond d f.length 0) 0 ≤ cond (cond b true (cond c d false)) f.length 0
    go true true true = omega arith
    go true true false = omega arith
    go true false d = omega arith
    go false true true = omega arith
    go false true false = omega arith
    go false false d = omega arith

whole-own : (p a n : ℕ) (f : Frame) → whole p a n f ≤ cond (ltb n p) f.length 0 + own p a n f
unfolding own whole counts
whole-own p a n f = go (ltb n p) (eqb n p) (leb f.since a)
  where
    go : (b c d : Bool) → cond (cond b true (cond c d false)) f.length 0 ≤ cond b f.length 0 + cond c (cond d f.length 0) 0
    go true c d = omega arith
    go false true true = omega arith
    go false true false = omega arith
    go false false d = omega arith

unfoldable pub bytes : List Frame → ℕ
bytes = total λ f. f.length

-- What the new frames of an instant add.
module _ (q a x : ℕ) (new : ℕ → List Frame) (came : (n : ℕ) → All (λ f. f.since ≡ x) (new n)) where
  abbrev p : ℕ
  p = suc q

  own_at : total (own p a p) (new p) ≤ cond (leb x a) (bytes (new p)) 0
  unfolding own bytes
  own_at =
      omega (
        arith,
        total-each (λ f. f.since ≡ x) (own p a p) (λ f. cond (leb x a) f.length 0) (new p)
            (λ f e. rw e (cond-le (eqb p p) (cond (leb x a) f.length 0)))
            (came p),
        total-cond (leb x a) (λ f. f.length) (new p),
      )

  pub own-adds : (n : ℕ) → window (λ k. total (own p a k) (new k)) 1 n ≤ cond (leb x a) (bytes (new p)) 0
  unfolding own
  own-adds n = omega (arith, own_at, window-at (λ k. total (own p a k) (new k)) p 1 n none)
    where
      none : (k : ℕ) → (k ≡ p → ⊥) → total (own p a k) (new k) ≡ 0
      none k d =
          total-cond (eqb k p) (λ f. cond (leb f.since a) f.length 0) (new k)
          ∙ ap (λ b. cond b (total (λ f. cond (leb f.since a) f.length 0) (new k)) 0) (ne_eqb k p d)

  above-adds : (n : ℕ) → window (λ k. total (λ f. cond (ltb k p) f.length 0) (new k)) 1 n ≤ window (λ k. bytes (new k)) 1 q
  unfolding bytes
  above-adds n =
      omega (
        arith,
        window-within (λ k. total (λ f. cond (ltb k p) f.length 0) (new k)) 1 q n none,
        window-mono (λ k. total (λ f. cond (ltb k p) f.length 0) (new k)) (λ k. bytes (new k)) 1 q some_of,
      )
    where
      at : (k : ℕ) → total (λ f. cond (ltb k p) f.length 0) (new k) ≡ cond (ltb k p) (bytes (new k)) 0
      at k = total-cond (ltb k p) (λ f. f.length) (new k)

      none : (k : ℕ) → 1 + q ≤ k → total (λ f. cond (ltb k p) f.length 0) (new k) ≡ 0
      none k h = at k ∙ ap (λ b. cond b (bytes (new k)) 0) (le-ltb k p (omega arith))

      some_of : (k : ℕ) → 1 ≤ k → k < 1 + q → total (λ f. cond (ltb k p) f.length 0) (new k) ≤ bytes (new k)
      some_of k l u = omega (arith, at k, cond-le (ltb k p) (bytes (new k)))

  pub whole-adds : (n : ℕ) → window (λ k. total (whole p a k) (new k)) 1 n ≤ window (λ k. bytes (new k)) 1 q + cond (leb x a) (bytes (new p)) 0
  whole-adds n =
      omega (
        arith,
        above-adds n,
        own-adds n,
        window-add (λ k. total (λ f. cond (ltb k p) f.length 0) (new k)) (λ k. total (own p a k) (new k)) 1 n,
        window-mono (λ k. total (whole p a k) (new k)) (λ k. total (λ f. cond (ltb k p) f.length 0) (new k) + total (own p a k) (new k)) 1 n parts,
      )
    where
      parts : (k : ℕ) → 1 ≤ k → k < 1 + n → total (whole p a k) (new k) ≤ total (λ f. cond (ltb k p) f.length 0) (new k) + total (own p a k) (new k)
      parts k l u =
          omega (
            arith,
            total-each (λ f. f.since ≡ x) (whole p a k) (λ f. cond (ltb k p) f.length 0 + own p a k f) (new k) (λ f e. whole-own p a k f) (came k),
            total-add (λ f. cond (ltb k p) f.length 0) (own p a k) (new k),
          )
