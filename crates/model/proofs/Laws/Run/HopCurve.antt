-- The network: while no frame has been late, the frames of one flow that reach one of its hops obey the curve of the burst at that hop and the flow's rate.
-- Net of cables and shortest sending times they were sent at most S before they came, and all of them by a conforming source. Assumes nothing.
use Rattle.std.specs.Prelude.{ℕ, suc, ◌+◌, ◌-◌, ◌≤◌, ◌<◌, ◌≡◌, Bool, ◌&&◌, List, leb, ltb}
use Rattle.std.proofs.Math.Path.{refl, ap}
use Rattle.std.proofs.Common.{sym, ◌∙◌, zero-add}
use Rattle.std.proofs.Math.Bool.{true, false, cond, and-false}
use Rattle.std.proofs.Math.Option.{some, some-injective}
use native.Mathlib.Omega.{arith}
use Rattle.std.proofs.Math.ListN.{get_elem?}
use Rattle.std.proofs.Math.Dec.{eqb}
use borrow.Author.Tests.{eqb-true, le-leb, lt-leb, lt-ltb, le-ltb}
use Rattle.model.specs.Formula.{burst_at_hop}
use Rattle.model.specs.QueueTable.{Table}
use Rattle.model.specs.Orders.{Hop, Flow}
use Rattle.model.specs.Aggregates.{growth}
use Rattle.model.specs.Schedulable.{Schedulable}
use Rattle.model.specs.Run.{Frame, Sends, Run, Conforming, bytes_of, window}
use Rattle.model.specs.Delivery.{any_birth, of_flow, at_hop}
use Rattle.model.proofs.Laws.Run.BoundSums.{burst-covers}
use Rattle.model.proofs.Laws.Total.{total-each, total-cond}
use Rattle.model.proofs.Laws.Test.{cond-le}
use Rattle.model.proofs.Laws.Run.Windows.{window-mono, window-zero, window-join, window-within}
use Rattle.model.proofs.Laws.Run.ArrivalCurve.{Curve}
use Rattle.model.proofs.Laws.Run.Standing.{moved}
use Rattle.model.proofs.Laws.Run.Jitter.{sum_before, upstream, least_delay, soonest, OnTime, NotLate, moves}
use Rattle.model.proofs.Laws.Run.Conservation.{reached, source, conserved}

-- Whether an instant is one of `count` from `first` on, and the bytes of frames that were sent at such an instant.
abbrev one_of : (first count : ℕ) → ℕ → Bool
one_of first count x = leb first x && ltb x (first + count)

abbrev born_in : (first count : ℕ) → ℕ → ℕ → ℕ
born_in first count born length = cond (one_of first count born) length 0

module _ (t : Table) (fs : List Flow) (sch : Schedulable t fs) (r : Run t fs) (h : ℕ) (ok : (m : ℕ) → m < h → NotLate t fs r m)
    (j : ℕ) (fl : Flow) (known : get_elem? fs j ≡ some fl) where
  -- Who comes to hop `i` in instants `s` to `s + n` was sent in so many instants from `first` on.
  module _ (i s n : ℕ) where
    abbrev first : ℕ
    first = s - (soonest t fl.path i + upstream t fl.path i)

    abbrev count : ℕ
    count = suc (n + upstream t fl.path i)

    young : (f : Frame) → OnTime t fs f → s ≤ f.since → f.since ≤ s + n → at_hop any_birth j i f ≤ at_hop (born_in first count) j i f
    unfolding at_hop of_flow
    young f o u v = go (eqb f.flow j) refl (eqb f.hop i) refl
      where
        go : (b : Bool) → eqb f.flow j ≡ b → (d : Bool) → eqb f.hop i ≡ d →
            cond d (cond b f.length 0) 0 ≤ cond d (cond b (born_in first count f.born f.length) 0) 0
        go b e false k = omega arith
        go false e true k = omega arith
        go true e true k = rw (le-leb first f.born from, lt-ltb f.born (first + count) to) (omega arith)
          where
            same : o.flow ≡ fl
            same = some-injective o.flow fl (sym o.known ∙ ap (get_elem? fs) (eqb-true f.flow j e) ∙ known)

            at-hop : (m : Hop → ℕ) → sum_before m o.flow.path f.hop ≡ sum_before m fl.path i
            at-hop m = ap (λ z. sum_before m z.path f.hop) same ∙ ap (sum_before m fl.path) (eqb-true f.hop i k)

            from : first ≤ f.born
            from = omega (arith, o.jitter, u, at-hop (growth t), at-hop (least_delay t))

            to : f.born < first + count
            to = omega (arith, o.not_sooner, v, at-hop (least_delay t))

    reached-young : (x : ℕ) → s ≤ x → x ≤ s + n → x ≤ h → reached t fs r (at_hop any_birth j i) x ≤ reached t fs r (at_hop (born_in first count) j i) x
    unfolding reached
    reached-young x u v low =
        total-each (λ f. OnTime t fs f × (f.since ≡ x)) (at_hop any_birth j i) (at_hop (born_in first count) j i)
        (moved r x)
        (λ f o. young f o.0 (omega (arith, o.1)) (omega (arith, o.1)))
        (moves t fs sch r x (λ m k. ok m (omega arith)))

  module _ (first count : ℕ) where
    -- The source sends such frames at such an instant.
    abbrev then : ℕ → ℕ
    then x = cond (one_of first count x) (bytes_of j (r.sent x)) 0

    source-then : (x : ℕ) → source t fs r (born_in first count) j x ≤ then x
    unfolding source of_flow bytes_of
    source-then x =
        omega (
          arith,
          total-each (Sends fs x) (λ f. cond (eqb f.flow j) (born_in first count f.born f.length) 0)
              (λ f. cond (one_of first count x) (cond (eqb f.flow j) f.length 0) 0)
              (r.sent x)
              (λ f s. rw s.born (swap (eqb f.flow j) (one_of first count x) f.length))
              (r.sends x),
          total-cond (one_of first count x) (λ f. cond (eqb f.flow j) f.length 0) (r.sent x),
        )
      where
        swap : (b d : Bool) (v : ℕ) → cond b (cond d v 0) 0 ≤ cond d (cond b v 0) 0
        swap true true v = omega arith
        swap true false v = omega arith
        swap false true v = omega arith
        swap false false v = omega arith

    -- So over any time it sends them in that window.
    then-window : (n : ℕ) → window then 0 n ≤ window (λ x. bytes_of j (r.sent x)) first count
    then-window n =
        let e : window then (0 + first) count ≡ window then first count = ap (λ z. window then z count) (zero-add first) in
        omega (
          arith,
          window-within then 0 (first + count) n
              (λ x u.
              ap (λ b. cond (leb first x && b) (bytes_of j (r.sent x)) 0) (le-ltb x (first + count) (omega arith))
              ∙ ap (λ b. cond b (bytes_of j (r.sent x)) 0) (and-false (leb first x))),
          window-join then 0 first count,
          window-zero then 0 first
              (λ x l u. ap (λ b. cond (b && ltb x (first + count)) (bytes_of j (r.sent x)) 0) (lt-leb first x (omega arith))),
          window-mono then (λ x. bytes_of j (r.sent x)) first count (λ x l u. cond-le (one_of first count x) (bytes_of j (r.sent x))),
        )

  pub hop-curve : Conforming fs r.sent → (i : ℕ) →
      Curve h (burst_at_hop fl.rate fl.burst (upstream t fl.path i)) fl.rate (reached t fs r (at_hop any_birth j i))
  hop-curve conforming i s n u =
      let e : window late (0 + s) (suc n) ≡ window late s (suc n) = ap (λ z. window late z (suc n)) (zero-add s) in
      omega (
        arith,
        window-mono (reached t fs r (at_hop any_birth j i)) late s (suc n) (λ x a b. reached-young i s n x a (omega arith) (omega arith)),
        window-join late 0 s (suc n),
        conserved t fs r (born_in (first i s n) (count i s n)) j i (s + suc n),
        window-mono (source t fs r (born_in (first i s n) (count i s n)) j) (then (first i s n) (count i s n)) 0 (s + suc n)
            (λ x a b. source-then (first i s n) (count i s n) x),
        then-window (first i s n) (count i s n) (s + suc n),
        conforming.bound j fl known (first i s n) (n + upstream t fl.path i),
        burst-covers fl.rate fl.burst (upstream t fl.path i),
      )
    where
      late : ℕ → ℕ
      late = reached t fs r (at_hop (born_in (first i s n) (count i s n)) j i)
