-- A consistent state gives what the run asks of a table and its flows. Rule by rule. Assumes nothing.
use Rattle.std.specs.Prelude.{ℕ, zero, suc, ◌≤◌, ◌≡◌, refl, true, cond, ◌&&◌, List, [], ◌∷◌, length}
use Rattle.std.proofs.Math.Option.{Option, none, some, none-ne-some, some-ne-none}
use Rattle.model.specs.Words.{All, every, is_none, nth}
use Rattle.model.specs.Sizes.{levels_most}
use Rattle.model.specs.Columns.{between}
use Rattle.model.proofs.Laws.Columns.{between-true}
use Rattle.model.specs.QueueTable.{Queue, Link, Table, row_in_range}
use Rattle.model.specs.Orders.{Hop, Flow}
use Rattle.model.specs.Aggregates.{link_at, queue_at}
use Rattle.model.specs.Schedulable.{Named, FlowMeets, Schedulable}
use Rattle.model.specs.Reference.{State, held_flows, at_hop, no_queue, line_findings}
use Rattle.model.proofs.Laws.Test.{and_both, and-then, every-all}
use Rattle.model.proofs.Laws.All.{all-imp, all-at}
use Rattle.model.specs.Consistent.{row_of, link_consistent, table_consistent}
use Rattle.model.proofs.Laws.Consistent.{FlowRules}
use Rattle.model.proofs.Laws.Table.{LinkRules, link-rules}
use Rattle.model.proofs.Laws.Reached.{StateRules}
use Rattle.model.proofs.Laws.Admissible.{deadline-met}

-- What holds of each element holds of the one with a number.
all-nth : {A : Type 0} (P : A → Type 0) (l : List A) (n : ℕ) {x : A} → All P l → nth l n ≡ some x → P x
unfolding nth
all-nth P l zero a e = absurd (none-ne-some _ e)
all-nth P l (suc i) a e = all-at P l i _ a e

-- What the ranges of a table line (2) say of a queue and its link.
pub record RowBounds (l : Link) (q : Queue) : Type 0 where
  pub speed-low : 1 ≤ l.speed
  pub speed : l.speed ≤ 10000
  pub positive : 1 ≤ q.threshold
  pub threshold : q.threshold ≤ 100000
  pub buffer : q.buffer ≤ 16777215

row-bounds : (l : Link) (q : Queue) → row_in_range (row_of l q) ≡ true → RowBounds l q
unfolding row_in_range row_of
row-bounds l q e =
    let e₀ = (and_both (between 1 9999 l.from && between 1 9999 l.to && between 1 10000 l.speed && between 1 100000 q.threshold && between 1 16777215 q.buffer && between 0 10000 l.fixed_delay) _ e).0 in
    let e₁ = (and_both (between 1 9999 l.from && between 1 9999 l.to && between 1 10000 l.speed && between 1 100000 q.threshold && between 1 16777215 q.buffer) _ e₀).0 in
    let (e₂, buffer) = and_both (between 1 9999 l.from && between 1 9999 l.to && between 1 10000 l.speed && between 1 100000 q.threshold) _ e₁ in
    let (e₃, threshold) = and_both (between 1 9999 l.from && between 1 9999 l.to && between 1 10000 l.speed) _ e₂ in
    let (e₄, speed) = and_both (between 1 9999 l.from && between 1 9999 l.to) _ e₃ in
    let (low, high) = between-true 1 100000 q.threshold threshold in
    let (slowest, fastest) = between-true 1 10000 l.speed speed in
    record {
      speed-low = slowest;
      speed = fastest;
      positive = low;
      threshold = high;
      buffer = (between-true 1 16777215 q.buffer buffer).1;
    }

module _ (t : Table) (ok : table_consistent t ≡ true) where
  links-rules : All LinkRules t
  unfolding table_consistent
  links-rules = all-imp t link-rules (every-all link_consistent t (and_both (every link_consistent t) _ ok).0)

  -- Each level of a link with a number.
  pub link-bounds : (n : ℕ) (k : Link) → link_at t n ≡ some k → (between 1 levels_most (length k.levels) ≡ true) × All (RowBounds k) k.levels
  unfolding link_at
  link-bounds n k e =
      let r = all-nth LinkRules t n links-rules e in
      (r.levels, all-imp k.levels (row-bounds k) r.ranges)

  -- A queue and its link.
  pub queue-bounds : (h : Hop) (q : Queue) → queue_at t h ≡ some q
      → (k : Link) × (link_at t h.link ≡ some k) × (nth k.levels h.level ≡ some q) × RowBounds k q
  unfolding queue_at
  queue-bounds h q e =
      let (k, found, level) = and-then (link_at t h.link) (λ l. nth l.levels h.level) e in
      (k, found, level, all-nth (RowBounds k) k.levels h.level (link-bounds h.link k found).1 level)

-- 14: each hop names a queue.
pub named : (t : Table) (earlier path : List Hop) → at_hop 14 (no_queue t) earlier path ≡ none → All (Named t) path
unfolding at_hop no_queue is_none
named t earlier [] e = tt
named t earlier (h ∷ path) e = go (queue_at t h) refl (named t (h ∷ earlier) path) e
  where
    go : (o : Option Queue) → queue_at t h ≡ o → (at_hop 14 (no_queue t) (h ∷ earlier) path ≡ none → All (Named t) path)
        → cond (is_none o) (some (record { code = 14; link = h.link; level = h.level })) (at_hop 14 (no_queue t) (h ∷ earlier) path) ≡ none
        → All (Named t) (h ∷ path)
    go none f r e = absurd (some-ne-none _ e)
    go (some q) f r e = (record { queue = q; found = f }, r e)

pub schedulable : (s : State) → StateRules s → Schedulable s.table (held_flows s.slots)
unfolding line_findings
schedulable s r =
    record {
      thresholds = λ h q e. (queue-bounds s.table r.table h q e).3.positive;
      flows = all-imp (held_flows s.slots) meets r.flows.flows;
    }
  where
    meets : (f : Flow) → FlowRules s.table (held_flows s.slots) f → FlowMeets s.table (held_flows s.slots) f
    meets f m =
        record {
          queues = named s.table [] f.path m.line.1.0;
          links = m.links;
          deadline = (deadline-met s.table f).0 m.deadline;
        }
