-- The levels of a link, which its check takes one by one, read off by their number: eq. 15 at each with the aggregates above and below it.
-- By induction on the levels; those above may come in any order. Assumes nothing.
use Prim.Native.Nat.{ℕ, zero, suc, ◌+◌, ◌-◌, ◌≤◌}
use Rattle.std.specs.Prelude.{◌≡◌, take, drop}
use Rattle.std.proofs.Math.Path.{refl, subst}
use mathlib.Core.List.{List, [], ◌∷◌, reverse, reverse_aux}
use Rattle.std.proofs.Math.Option.{some, none-ne-some, some-injective}
use native.Mathlib.Omega.{arith}
use Rattle.std.proofs.Math.ListN.{get_elem?}
use Rattle.model.specs.Words.{nth}
use Rattle.model.proofs.Laws.Total.{total-reverse}
use Rattle.model.specs.Formula.{Aggregate, interference, level_residual, delay, backlog}
use Rattle.model.specs.QueueTable.{Queue, Link, Table}
use Rattle.model.specs.Orders.{Flow}
use Rattle.model.proofs.Laws.LinkCheck.{LevelMeets, LevelsMeet}
use Rattle.model.specs.Aggregates.{aggregate_at, level_aggregates}
use Rattle.model.specs.Admissible.{own, above, below, LevelAdmits}

module _ (t : Table) (fs : List Flow) (n speed best_effort : ℕ) where
  -- Level `p`, the `i`-th after those that gave `up`.
  AtLevel : (up : List Aggregate) (m : ℕ) (qs : List Queue) (i p : ℕ) (q : Queue) → Type 0
  AtLevel up m qs i p q =
      LevelMeets speed best_effort q
      (reverse_aux (level_aggregates t fs n m (take i qs)) up)
      (aggregate_at t fs (record { link = n; level = p }))
      (level_aggregates t fs n (suc p) (drop (suc i) qs))

  level-at : (up : List Aggregate) (m : ℕ) (qs : List Queue) → LevelsMeet speed best_effort up qs (level_aggregates t fs n m qs)
      → (i p : ℕ) (q : Queue)
      → p ≡ m + i
      → get_elem? qs i ≡ some q
      → AtLevel up m qs i p q
  unfolding AtLevel level_aggregates
  level-at up m [] l i p q e g = absurd (none-ne-some _ g)
  level-at up m (q' ∷ qs) l zero p q e g =
      let e' : m ≡ p = omega arith in
      subst
      (λ (p : ℕ). LevelMeets speed best_effort q up (aggregate_at t fs (record { link = n; level = p })) (level_aggregates t fs n (suc p) qs))
      e'
      (subst
      (λ (q : Queue). LevelMeets speed best_effort q up (aggregate_at t fs (record { link = n; level = m })) (level_aggregates t fs n (suc m) qs))
      (some-injective _ _ g)
      l.0)
  level-at up m (q' ∷ qs) l (suc i) p q e g =
      level-at (aggregate_at t fs (record { link = n; level = m }) ∷ up) (suc m) qs l.1 i p q (omega arith) g

  at_level : (up : List Aggregate) (m : ℕ) (qs : List Queue)
      → ((i p : ℕ) (q : Queue) → p ≡ m + i → get_elem? qs i ≡ some q → AtLevel up m qs i p q)
      → LevelsMeet speed best_effort up qs (level_aggregates t fs n m qs)
  unfolding AtLevel level_aggregates
  at_level up m [] h = tt
  at_level up m (q ∷ qs) h = (
    h 0 m q (omega arith) refl,
    at_level (aggregate_at t fs (record { link = n; level = m }) ∷ up) (suc m) qs (λ i p q e g. h (suc i) p q (omega arith) g),
  )

-- Delay and backlog take the levels above together, in any order.
delay-reverse : (speed best_effort : ℕ) (l : List Aggregate) (a : Aggregate) (m : List Aggregate) → delay speed best_effort (reverse l) a m ≡ delay speed best_effort l a m
unfolding delay interference level_residual
delay-reverse speed best_effort l a m = rw (total-reverse (λ a. a.burst) l, total-reverse (λ a. a.rate) l)

backlog-reverse : (speed best_effort : ℕ) (l : List Aggregate) (a : Aggregate) (m : List Aggregate) → backlog speed best_effort (reverse l) a m ≡ backlog speed best_effort l a m
unfolding backlog interference level_residual
backlog-reverse speed best_effort l a m = rw (total-reverse (λ a. a.burst) l, total-reverse (λ a. a.rate) l)

module _ (t : Table) (fs : List Flow) (n : ℕ) (k : Link) where
  -- The level with number `p`, the levels above it in either order.
  pub level-admits : LevelsMeet k.speed k.best_effort [] k.levels (level_aggregates t fs n 1 k.levels) → (p : ℕ) (q : Queue)
      → nth k.levels p ≡ some q
      → 1 ≤ (aggregate_at t fs (record { link = n; level = p })).frame
      → LevelAdmits t fs n k p q
  unfolding nth AtLevel above own below
  level-admits l zero q e h = absurd (none-ne-some _ e)
  level-admits l (suc i) q e h =
      let m = level-at t fs n k.speed k.best_effort [] 1 k.levels l i (suc i) q (omega arith) e in
      let i' : suc i - 1 ≡ i = omega arith in
      record {
        threshold = rw i' (rw delay-reverse at (m.threshold h));
        buffer = rw i' (rw backlog-reverse at (m.buffer h));
      }

  pub admits-level : ((p : ℕ) (q : Queue) → nth k.levels p ≡ some q → 1 ≤ (aggregate_at t fs (record { link = n; level = p })).frame → LevelAdmits t fs n k p q)
      → LevelsMeet k.speed k.best_effort [] k.levels (level_aggregates t fs n 1 k.levels)
  unfolding nth AtLevel above own below
  admits-level a = at_level t fs n k.speed k.best_effort [] 1 k.levels level
    where
      exact : (i : ℕ) (q : Queue) → get_elem? k.levels i ≡ some q → AtLevel t fs n k.speed k.best_effort [] 1 k.levels i (suc i) q
      exact i q g =
          let i' : suc i - 1 ≡ i = omega arith in
          record {
            threshold = λ h. rw delay-reverse (rw i' at (a (suc i) q g h).threshold);
            buffer = λ h. rw backlog-reverse (rw i' at (a (suc i) q g h).buffer);
          }

      level : (i p : ℕ) (q : Queue) → p ≡ 1 + i → get_elem? k.levels i ≡ some q → AtLevel t fs n k.speed k.best_effort [] 1 k.levels i p q
      level i p q e g =
          let e' : suc i ≡ p = omega arith in
          subst (λ (p : ℕ). AtLevel t fs n k.speed k.best_effort [] 1 k.levels i p q) e' (exact i q g)
