-- The numbers of a consistent state are small. Thresholds and speeds: by the table's ranges. The figures of a queue: where no flow has a hop they are
-- 0, else its link meets 21 and 23, so that the rates stay below the speed and the bursts within the buffer. Assumes nothing.
use Prim.Native.Nat.{ℕ, zero, suc, ◌+◌, ◌^◌, ◌≤◌}
use Rattle.std.specs.Prelude.{◌≡◌, refl, Bool, true, false, cond, length}
use Rattle.std.proofs.Math.Path.{ap}
use mathlib.Core.List.{List, [], ◌∷◌}
use Rattle.std.proofs.Math.Option.{some, none-ne-some}
use Rattle.std.proofs.Math.Nat.{le_trans}
use native.Mathlib.Omega.{arith}
use Rattle.std.proofs.Math.ListN.{get_elem?}
use Rattle.model.specs.Words.{All, nth}
use Rattle.model.specs.Sizes.{levels_most}
use Rattle.model.specs.Total.{total, largest}
use Rattle.model.specs.Formula.{Aggregate, backlog, backlog_bound}
use Rattle.model.specs.QueueTable.{Queue, Link, Table}
use Rattle.model.specs.Orders.{Hop, Flow}
use Rattle.model.specs.Aggregates.{Share, link_at, queue_at, growth, shares, all_shares, same_hop, adds_at, shares_at, aggregate_at, level_aggregates}
use Rattle.model.specs.Reference.{State, held_flows}
use Rattle.model.specs.Consistent.{table_consistent}
use Rattle.model.specs.Admissible.{own}
use Rattle.model.specs.Schedulable.{Named, LinkMeets, FlowMeets}
use Rattle.model.proofs.Laws.All.{all_append, all-imp, all-member}
use Rattle.model.proofs.Laws.Test.{cond-le}
use Rattle.model.proofs.Laws.Total.{largest-le}
use Rattle.model.proofs.Laws.Columns.{between-true}
use Rattle.model.proofs.Laws.LinkCheck.{link-meets}
use Rattle.model.proofs.Laws.Levels.{level-admits}
use Rattle.model.proofs.Laws.Carries.{frame-carries}
use Rattle.model.proofs.Laws.Admissible.{flow-bounds}
use Rattle.model.proofs.Laws.Reached.{StateRules}
use Rattle.model.proofs.Laws.Schedulable.{RowBounds, link-bounds, queue-bounds, schedulable}

pub threshold-below : (t : Table) → table_consistent t ≡ true → (h : Hop) (q : Queue) → queue_at t h ≡ some q → q.threshold ≤ 100000
threshold-below t ok h q e = (queue-bounds t ok h q e).3.threshold

-- A link has at least one level, whose line gives the speed.
pub speed-range : (t : Table) → table_consistent t ≡ true → (n : ℕ) (k : Link) → link_at t n ≡ some k → (1 ≤ k.speed) × (k.speed ≤ 10000)
speed-range t ok n k e =
    let (levels, ranges) = link-bounds t ok n k e in
    first k.levels (between-true 1 levels_most (length k.levels) levels).0 ranges
  where
    first : (qs : List Queue) → 1 ≤ length qs → All (RowBounds k) qs → (1 ≤ k.speed) × (k.speed ≤ 10000)
    first [] some_level a = absurd (omega arith)
    first (q ∷ qs) some_level a = (a.0.speed-low, a.0.speed)

pub speed-below : (t : Table) → table_consistent t ≡ true → (n : ℕ) (k : Link) → link_at t n ≡ some k → k.speed ≤ 10000
speed-below t ok n k e = (speed-range t ok n k e).1

module _ (t : Table) where
  -- What holds of each flow's largest frame holds of each entry's.
  path-frames : (P : ℕ → Type 0) (f : Flow) → P f.frame → (sum : ℕ) (path : List Hop) → All (λ e. P e.adds.frame) (shares t f sum path)
  unfolding shares
  path-frames P f p sum [] = tt
  path-frames P f p sum (h ∷ path) = (p, path-frames P f p (sum + growth t h) path)

  entry-frames : (P : ℕ → Type 0) (fs : List Flow) → All (λ f. P f.frame) fs → All (λ e. P e.adds.frame) (all_shares t fs)
  unfolding all_shares
  entry-frames P [] a = tt
  entry-frames P (f ∷ fs) a =
      all_append (λ e. P e.adds.frame) (shares t f 0 f.path) (all_shares t fs) (path-frames P f a.0 0 f.path) (entry-frames P fs a.1)

  -- A level's aggregate is counted in the sum over the link.
  level-within : (fs : List Flow) (m : Aggregate → ℕ) (link n : ℕ) (qs : List Queue) (i p : ℕ) {q : Queue} → p ≡ n + i → get_elem? qs i ≡ some q
      → m (aggregate_at t fs (record { link = link; level = p })) ≤ total m (level_aggregates t fs link n qs)
  unfolding total level_aggregates
  level-within fs m link n [] i p e g = absurd (none-ne-some _ g)
  level-within fs m link n (q ∷ qs) zero p e g =
      let own : p ≡ n = omega arith in
      omega (arith, ap (λ (p : ℕ). m (aggregate_at t fs (record { link = link; level = p }))) own)
  level-within fs m link n (q ∷ qs) (suc i) p e g = omega (arith, level-within fs m link (suc n) qs i p (omega arith) g)

  level-below : (fs : List Flow) (m : Aggregate → ℕ) (link : ℕ) (qs : List Queue) (p : ℕ) {q : Queue} → nth qs p ≡ some q
      → m (aggregate_at t fs (record { link = link; level = p })) ≤ total m (level_aggregates t fs link 1 qs)
  unfolding nth
  level-below fs m link qs zero g = absurd (none-ne-some _ g)
  level-below fs m link qs (suc i) g = level-within fs m link 1 qs i (suc i) (omega arith) g

-- Entries with frames that aren't 0, and no frame at the queue: none of them is there.
no-frame : (q : Hop) (m : Aggregate → ℕ) (es : List Share) → All (λ e. 1 ≤ e.adds.frame) es → largest (adds_at q (λ a. a.frame)) es ≡ 0
    → total (adds_at q m) es ≡ 0
unfolding total largest adds_at
no-frame q m [] a z = refl
no-frame q m (e ∷ es) a z = omega (arith, here (same_hop q e.hop) (omega arith), no-frame q m es a.1 (omega arith))
  where
    here : (b : Bool) → cond b e.adds.frame 0 ≡ 0 → cond b (m e.adds) 0 ≡ 0
    here true y = absurd (omega (arith, a.0))
    here false y = refl

module _ (s : State) (r : StateRules s) (h : Hop) where
  abbrev figures : Aggregate
  figures = aggregate_at s.table (held_flows s.slots) h

  frames : All (λ e. (84 ≤ e.adds.frame) × (e.adds.frame ≤ 1542)) (all_shares s.table (held_flows s.slots))
  frames =
      entry-frames s.table (λ n. (84 ≤ n) × (n ≤ 1542)) (held_flows s.slots)
      (all-imp (held_flows s.slots) (λ f m. (flow-bounds f m.range).frame) r.flows.flows)

  frame_small : figures.frame ≤ 1542
  unfolding shares_at aggregate_at adds_at
  frame_small =
      largest-le (adds_at h (λ a. a.frame)) 1542 (all_shares s.table (held_flows s.slots))
      (all-imp (all_shares s.table (held_flows s.slots)) (λ e m. le_trans (cond-le (same_hop h e.hop) e.adds.frame) m.1) frames)

  none-there : figures.frame ≡ 0 → (figures.rate ≡ 0) × (figures.burst ≡ 0)
  unfolding shares_at aggregate_at
  none-there z = (zero-there (λ a. a.rate), zero-there (λ a. a.burst))
    where
      zero-there : (m : Aggregate → ℕ) → total (adds_at h m) (all_shares s.table (held_flows s.slots)) ≡ 0
      zero-there m =
          no-frame h m (all_shares s.table (held_flows s.slots))
          (all-imp (all_shares s.table (held_flows s.slots)) (λ e m. omega (arith, m.0)) frames)
          z

  some-there : 1 ≤ figures.frame → (figures.rate ≤ 10000000) × (figures.burst ≤ 16777215)
  unfolding own backlog backlog_bound
  some-there p =
      let fs = held_flows s.slots in
      let c = frame-carries s.table h fs p in
      let m = all-member (FlowMeets s.table fs) (schedulable s r).flows c.among in
      let n = all-member (Named s.table) m.queues c.hop in
      let (k, found, level, bounds) = queue-bounds s.table r.table h n.queue n.found in
      let (rate, levels) = link-meets k.speed k.best_effort k.levels (level_aggregates s.table fs h.link 1 k.levels)
      ((all-member (λ h. LinkMeets s.table fs h.link) m.links c.hop).meets k found) in
      let admits = level-admits s.table fs h.link k levels h.level n.queue level p in (
        omega (arith, level-below s.table fs (λ a. a.rate) h.link k.levels h.level level, bounds.speed),
        omega (arith, admits.buffer, bounds.buffer),
      )

  pub figures-bounded : (figures.rate ≤ 10000000) × ((figures.burst ≤ 2 ^ 32) × (figures.frame ≤ 1542))
  figures-bounded = go figures.frame refl
    where
      go : (n : ℕ) → figures.frame ≡ n → (figures.rate ≤ 10000000) × ((figures.burst ≤ 2 ^ 32) × (figures.frame ≤ 1542))
      go zero z = let (rate, burst) = none-there z in (omega arith, (omega arith, frame_small))
      go (suc n) e = let (rate, burst) = some-there (omega arith) in (rate, (omega arith, frame_small))
