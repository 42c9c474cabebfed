-- The network: while no frame has been late, the arrivals of each queue obey the curve of its aggregate.
-- The curves of the flows that have a hop there are summed, over all flows and all their hops. Assumes nothing.
use Prim.Native.Nat.{ℕ, zero, suc, ◌+◌, ◌*◌, ◌≤◌, ◌<◌}
use Rattle.std.specs.Prelude.{◌≡◌}
use Rattle.std.proofs.Math.Path.{refl, ap}
use Rattle.std.proofs.Common.{sym, subst, ◌∙◌}
use Rattle.std.proofs.Math.Bool.{cond}
use mathlib.Core.List.{List, [], ◌∷◌}
use Rattle.std.proofs.Math.Option.{Option, none, some, none-ne-some, some-injective}
use native.Mathlib.Omega.{arith}
use Rattle.std.proofs.Math.ListN.{get_elem?}
use borrow.Author.Tests.{eq-eqb}
use Rattle.model.specs.Total.{total}
use Rattle.model.specs.Formula.{Aggregate, burst_at_hop}
use Rattle.model.specs.QueueTable.{Table}
use Rattle.model.specs.Orders.{Hop, Flow}
use Rattle.model.specs.Aggregates.{growth, Share, shares, all_shares, same_hop, adds_at, shares_at, aggregate_at}
use Rattle.model.specs.Schedulable.{Schedulable}
use Rattle.model.specs.Run.{Frame, Run, Conforming, hop_of, is_at}
use Rattle.model.specs.Delivery.{any_birth, of_flow, at_hop}
use Rattle.model.proofs.Laws.Total.{total-append, total-add, total-zeros, total-cond, total-each, total-perm}
use Rattle.model.proofs.Laws.Run.Windows.{window-ext, window-add}
use Rattle.model.proofs.Laws.Run.ArrivalCurve.{Curve, curve-zero, curve-le, curve-add, curve-cond}
use Rattle.model.proofs.Laws.Run.LevelArrivals.{bytes}
use Rattle.model.proofs.Laws.Run.Standing.{moved, known-hop}
use Rattle.model.proofs.Laws.Run.Jitter.{sum_before, upstream, OnTime, NotLate, moves}
use Rattle.model.proofs.Laws.Run.Conservation.{reached, reaching-total}
use Rattle.model.proofs.Laws.Run.HopCurve.{hop-curve}

-- What a frame brings to queue `q` at one of the hops of flow `j`, which are those from index `i` on;
-- and at a hop of one of the flows, which are those from index `j` on.
module _ (q : Hop) where
  unfoldable hops_share : (j i : ℕ) → List Hop → Frame → ℕ
  hops_share j i [] f = 0
  hops_share j i (h ∷ path) f = cond (same_hop q h) (at_hop any_birth j i f) 0 + hops_share j (suc i) path f

  unfoldable flows_share : (j : ℕ) → List Flow → Frame → ℕ
  flows_share j [] f = 0
  flows_share j (fl ∷ fs) f = hops_share j 0 fl.path f + flows_share (suc j) fs f

  at_own : (j i : ℕ) (f : Frame) → f.flow ≡ j → f.hop ≡ i → at_hop any_birth j i f ≡ f.length
  unfolding at_hop of_flow
  at_own j i f a b = rw (eq-eqb f.flow j a, eq-eqb f.hop i b)

  hop-share : (j i k : ℕ) (path : List Hop) (f : Frame) (h : Hop) → get_elem? path k ≡ some h → f.flow ≡ j → f.hop ≡ i + k →
      cond (same_hop q h) f.length 0 ≤ hops_share j i path f
  unfolding hops_share
  hop-share j i k [] f h e a b = absurd (none-ne-some h e)
  hop-share j i zero (g ∷ path) f h e a b =
      omega (
        arith,
        ap (λ z. cond (same_hop q z) f.length 0) (some-injective g h e),
        ap (λ z. cond (same_hop q g) z 0) (at_own j i f a (omega arith)),
      )
  hop-share j i (suc k) (g ∷ path) f h e a b = omega (arith, hop-share j (suc i) k path f h e a (omega arith))

  flow-share : (j k : ℕ) (fs : List Flow) (f : Frame) (fl : Flow) (h : Hop) → get_elem? fs k ≡ some fl →
      get_elem? fl.path f.hop ≡ some h → f.flow ≡ j + k →
      cond (same_hop q h) f.length 0 ≤ flows_share j fs f
  unfolding flows_share
  flow-share j k [] f fl h e u a = absurd (none-ne-some fl e)
  flow-share j zero (g ∷ fs) f fl h e u a =
      omega (arith, hop-share j 0 f.hop g.path f h (ap (λ z. get_elem? z.path f.hop) (some-injective g fl e) ∙ u) (omega arith) (omega arith))
  flow-share j (suc k) (g ∷ fs) f fl h e u a = omega (arith, flow-share (suc j) k fs f fl h e u (omega arith))

  frame-share : (t : Table) (fs : List Flow) (f : Frame) → OnTime t fs f → cond (is_at q (hop_of fs f)) f.length 0 ≤ flows_share 0 fs f
  frame-share t fs f o = go (hop_of fs f) refl
    where
      go : (b : Option Hop) → hop_of fs f ≡ b → cond (is_at q b) f.length 0 ≤ flows_share 0 fs f
      go none e = omega arith
      go (some h) e =
          flow-share 0 f.flow fs f o.flow h o.known (sym (known-hop fs f o.flow o.known) ∙ e) (omega arith)

module _ (t : Table) (fs : List Flow) (sch : Schedulable t fs) (r : Run t fs) (conforming : Conforming fs r.sent)
    (h : ℕ) (ok : (m : ℕ) → m < h → NotLate t fs r m) (q : Hop) where
  abbrev sum : (Aggregate → ℕ) → List Share → ℕ
  sum measure es = total (adds_at q measure) es

  -- The curve of flow `j` at its hop `i`, before which S is `s`.
  abbrev HopCurve : Flow → (j i s : ℕ) → Type 0
  HopCurve fl j i s = Curve h (burst_at_hop fl.rate fl.burst s) fl.rate (reached t fs r (at_hop any_birth j i))

  recast : (fl : Flow) (j i s j' i' s' : ℕ) → j ≡ j' → i ≡ i' → s ≡ s' → HopCurve fl j i s → HopCurve fl j' i' s'
  recast fl j i s j' i' s' a b d c =
      subst (λ z. HopCurve fl z i' s') a (subst (λ z. HopCurve fl j z s') b (subst (λ z. HopCurve fl j i z) d c))

  hops-curve : (j i s : ℕ) (fl : Flow) (path : List Hop) → ((k : ℕ) → HopCurve fl j (i + k) (s + upstream t path k)) →
      Curve h (sum (λ a. a.burst) (shares t fl s path)) (sum (λ a. a.rate) (shares t fl s path)) (λ x. total (hops_share q j i path) (moved r x))
  unfolding hops_share shares total adds_at reached sum_before
  hops-curve j i s fl [] c = curve-zero h 0 0 (λ x. total (λ f. 0) (moved r x)) (λ x. total-zeros (moved r x))
  hops-curve j i s fl (g ∷ path) c =
      curve-le h (head (burst_at_hop fl.rate fl.burst s) + sum (λ a. a.burst) (shares t fl next path))
      (head fl.rate + sum (λ a. a.rate) (shares t fl next path))
      (λ x. total (hops_share q j i (g ∷ path)) (moved r x))
      (λ x. head (reached t fs r (at_hop any_birth j i) x) + total (hops_share q j (suc i) path) (moved r x))
      (λ x u.
      omega (
        arith,
        total-add (λ f. head (at_hop any_birth j i f)) (hops_share q j (suc i) path) (moved r x),
        total-cond (same_hop q g) (at_hop any_birth j i) (moved r x),
      ))
      (curve-add h (head (burst_at_hop fl.rate fl.burst s)) (head fl.rate)
      (sum (λ a. a.burst) (shares t fl next path))
      (sum (λ a. a.rate) (shares t fl next path))
      (λ x. head (reached t fs r (at_hop any_birth j i) x))
      (λ x. total (hops_share q j (suc i) path) (moved r x))
      (curve-cond h (same_hop q g) (burst_at_hop fl.rate fl.burst s) fl.rate (reached t fs r (at_hop any_birth j i))
      (recast fl j (i + 0) (s + upstream t (g ∷ path) 0) j i s refl (omega arith) (omega arith) (c 0)))
      (hops-curve j (suc i) next fl path
      (λ k. recast fl j (i + suc k) (s + upstream t (g ∷ path) (suc k)) j (suc i + k) (next + upstream t path k) refl (omega arith) (omega arith) (c (suc k)))))
    where
      next : ℕ
      next = s + growth t g

      head : ℕ → ℕ
      head v = cond (same_hop q g) v 0

  flows-curve : (j : ℕ) (gs : List Flow) → ((k : ℕ) (fl : Flow) → get_elem? gs k ≡ some fl → (i : ℕ) → HopCurve fl (j + k) i (upstream t fl.path i)) →
      Curve h (sum (λ a. a.burst) (all_shares t gs)) (sum (λ a. a.rate) (all_shares t gs)) (λ x. total (flows_share q j gs) (moved r x))
  unfolding flows_share all_shares total
  flows-curve j [] c = curve-zero h 0 0 (λ x. total (λ f. 0) (moved r x)) (λ x. total-zeros (moved r x))
  flows-curve j (fl ∷ gs) c = λ s n u.
      omega (
        arith,
        hops-curve j 0 0 fl fl.path
            (λ i. recast fl (j + 0) i (upstream t fl.path i) j (0 + i) (0 + upstream t fl.path i) (omega arith) (omega arith) (omega arith) (c 0 fl refl i))
            s n u,
        flows-curve (suc j) gs
            (λ k fl e i. recast fl (j + suc k) i (upstream t fl.path i) (suc j + k) i (upstream t fl.path i) (omega arith) refl refl (c (suc k) fl e i))
            s n u,
        window-add (λ x. total (hops_share q j 0 fl.path) (moved r x)) (λ x. total (flows_share q (suc j) gs) (moved r x)) s (suc n),
        window-ext (λ x. total (flows_share q j (fl ∷ gs)) (moved r x))
            (λ x. total (hops_share q j 0 fl.path) (moved r x) + total (flows_share q (suc j) gs) (moved r x)) s (suc n)
            (λ x. total-add (hops_share q j 0 fl.path) (flows_share q (suc j) gs) (moved r x)),
        total-append (adds_at q (λ a. a.burst)) (shares t fl 0 fl.path) (all_shares t gs),
        ap (λ z. z * n) (total-append (adds_at q (λ a. a.rate)) (shares t fl 0 fl.path) (all_shares t gs)),
      )

  -- Where the network and the one link meet.
  pub queue-curve : Curve h (aggregate_at t fs q).burst (aggregate_at t fs q).rate (λ x. bytes (r.arrivals x q.link q.level))
  unfolding shares_at aggregate_at bytes
  queue-curve =
      curve-le h (aggregate_at t fs q).burst (aggregate_at t fs q).rate (λ x. bytes (r.arrivals x q.link q.level)) (λ x. total (flows_share q 0 fs) (moved r x)) less
      (flows-curve 0 fs
      (λ k fl e i.
      recast fl k i (upstream t fl.path i) (0 + k) i (upstream t fl.path i) (omega arith) refl refl (hop-curve t fs sch r h ok k fl e conforming i)))
    where
      less : (x : ℕ) → x ≤ h → bytes (r.arrivals x q.link q.level) ≤ total (flows_share q 0 fs) (moved r x)
      less x u =
          omega (
            arith,
            total-perm (λ f. f.length) (r.any_order x q),
            reaching-total (λ f. f.length) fs q (moved r x),
            total-each (λ f. OnTime t fs f × (f.since ≡ x)) (λ f. cond (is_at q (hop_of fs f)) f.length 0) (flows_share q 0 fs) (moved r x)
                (λ f o. frame-share q t fs f o.0)
                (moves t fs sch r x (λ m k. ok m (omega arith))),
          )
