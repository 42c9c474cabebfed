-- What the check of a link says of each of its levels, by the level's number: the rate rule, and eq. 15 where the level carries a flow.
-- Induction over the levels. Assumes nothing.
use Prim.Native.Nat.{ℕ, suc, ◌+◌, ◌*◌, ◌-◌, ◌≤◌, ◌<◌, max}
use Rattle.std.specs.Prelude.{◌≡◌, Bool, length, take, drop}
use Rattle.std.proofs.Math.Path.{refl, ap}
use Rattle.std.proofs.Common.{sym, ◌∙◌, arith, length-take-le}
use Rattle.std.proofs.Math.Bool.{true, false}
use mathlib.Core.List.{List, [], ◌∷◌}
use Rattle.std.proofs.Math.Option.{some}
use Rattle.std.proofs.Math.ListN.{get_elem?, length-drop}
use Rattle.std.proofs.Math.Dec.{eqb}
use borrow.Author.Tests.{eqb-true, eqb-false}
use Rattle.model.specs.Words.{nth}
use Rattle.model.specs.Total.{total, largest}
use Rattle.model.specs.Formula as formula
use Rattle.model.specs.Formula.{Aggregate, residual, delay_bound, backlog_bound, interference, level_residual, delay, backlog}
use Rattle.model.specs.QueueTable.{Queue, Link, Table}
use Rattle.model.specs.Orders.{Flow}
use Rattle.model.specs.LinkCheck.{link_finding}
use Rattle.model.specs.Aggregates.{aggregate_at, level_aggregates}
use Rattle.model.specs.Admissible.{own, above, below, LevelAdmits}
use Rattle.model.proofs.Laws.List.{index_below}
use Rattle.model.proofs.Laws.LinkCheck.{LevelsMeet, link-meets}
use Rattle.model.proofs.Laws.Levels.{level-admits}
use Rattle.model.specs.Run.{window}
use Rattle.model.proofs.Laws.Run.Windows.{window-front, window-last, window-longer}
use Rattle.model.proofs.Laws.Run.Standing.{hop}

module _ (t : Table) (fs : List Flow) (link : ℕ) where
  abbrev pub at : ℕ → Aggregate
  at level = aggregate_at t fs (hop link level)

  levels-total : (m : Aggregate → ℕ) (n : ℕ) (qs : List Queue) → total m (level_aggregates t fs link n qs) ≡ window (λ k. m (at k)) n (length qs)
  unfolding total level_aggregates window
  levels-total m n [] = refl
  levels-total m n (q ∷ qs) = omega (arith, levels-total m (suc n) qs, window-front (λ k. m (at k)) n (length qs))

  levels-largest : (m : Aggregate → ℕ) (n : ℕ) (qs : List Queue) (k : ℕ) → n ≤ k → k < n + length qs → m (at k) ≤ largest m (level_aggregates t fs link n qs)
  unfolding largest level_aggregates
  levels-largest m n [] k a b = absurd (omega arith)
  levels-largest m n (q ∷ qs) k a b = go (eqb n k) refl (λ u. levels-largest m (suc n) qs k u (omega arith))
    where
      go : (c : Bool) → eqb n k ≡ c → (suc n ≤ k → m (at k) ≤ largest m (level_aggregates t fs link (suc n) qs)) →
          m (at k) ≤ max (m (at n)) (largest m (level_aggregates t fs link (suc n) qs))
      go true e ih = omega (arith, ap (λ z. m (at z)) (eqb-true n k e))
      go false e ih = let d = eqb-false n k e in omega (arith, ih (omega (arith, d)))

  -- The sums over the levels above level `suc i`.
  abbrev pub burst_above : ℕ → ℕ
  burst_above i = window (λ k. (at k).burst) 1 i

  abbrev pub rate_above : ℕ → ℕ
  rate_above i = window (λ k. (at k).rate) 1 i

  -- A level that passes the check, by its number `suc i`.
  pub record Passes (speed best_effort : ℕ) (q : Queue) (i last : ℕ) : Type 0 where
    pub rates : rate_above i + (at (suc i)).rate < 1000 * speed
    pub blocking : ℕ
    pub blocked : (k : ℕ) → suc i < k → k ≤ last → (at k).frame ≤ blocking
    pub alone : best_effort ≤ blocking
    pub delays : 1 ≤ (at (suc i)).frame →
        delay_bound (burst_above i + blocking + (at (suc i)).frame) (at (suc i)).burst (residual speed (rate_above i)) ≤ q.threshold
    pub backlogs : 1 ≤ (at (suc i)).frame →
        backlog_bound (at (suc i)).rate (at (suc i)).burst (burst_above i + blocking + (at (suc i)).frame) (residual speed (rate_above i)) ≤ q.buffer

  pub passes : (k : Link) → (link_finding k.speed k.best_effort k.levels (level_aggregates t fs link 1 k.levels)).code ≡ 0 →
      (i : ℕ) (q : Queue) → get_elem? k.levels i ≡ some q → Passes k.speed k.best_effort q i (length k.levels)
  unfolding delay backlog interference formula.blocking level_residual above own below nth
  passes k h i q e =
      record {
        rates = omega (arith, meets.0, levels-total (λ a. a.rate) 1 k.levels, rate-in);
        blocking = formula.blocking k.best_effort (below t fs link k (suc i));
        blocked = λ m a b. omega (arith, levels-largest (λ a. a.frame) (suc (suc i)) (drop (suc i) k.levels) m a (simp length-drop (omega arith)));
        alone = omega arith;
        delays = λ f. rw (sum (λ a. a.burst), sum (λ a. a.rate)) (admits f).threshold;
        backlogs = λ f. rw (sum (λ a. a.burst), sum (λ a. a.rate)) (admits f).buffer;
      }
    where
      aggregates : List Aggregate
      aggregates = level_aggregates t fs link 1 k.levels

      meets : (total (λ a. a.rate) aggregates < 1000 * k.speed) × LevelsMeet k.speed k.best_effort [] k.levels aggregates
      meets = link-meets k.speed k.best_effort k.levels aggregates h

      admits : 1 ≤ (at (suc i)).frame → LevelAdmits t fs link k (suc i) q
      admits = level-admits t fs link k meets.1 (suc i) q e

      within : i < length k.levels
      within = index_below k.levels i q e

      sum : (m : Aggregate → ℕ) → window (λ n. m (at n)) 1 i ≡ total m (above t fs link k (suc i))
      sum m =
          let i' : suc i - 1 ≡ i = omega arith in
          rw i' (sym (levels-total m 1 (take i k.levels) ∙ ap (window (λ n. m (at n)) 1) (length-take-le i k.levels (omega (arith, within)))))

      rate-in : rate_above i + (at (suc i)).rate ≤ window (λ n. (at n).rate) 1 (length k.levels)
      rate-in =
          let next : 1 + i ≡ suc i = omega arith in
          omega (
            arith,
            window-longer (λ n. (at n).rate) 1 (suc i) (length k.levels) within,
            window-last (λ n. (at n).rate) 1 i,
            ap (λ n. (at n).rate) next,
          )
