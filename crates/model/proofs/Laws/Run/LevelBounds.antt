-- One link, one level: from the arrival curves of its levels, no frame stays as long as the delay bound and no queue holds more than the backlog bound.
-- The busy period up to the instant gives an inequality in each case, in slots and then, without the grain, in bits; the rest is arithmetic (eqs. 12, 13). Assumes nothing.
use Prim.Native.Nat.{ℕ, zero, suc, ◌+◌, ◌*◌, ◌-◌, ◌≤◌, ◌<◌}
use Rattle.std.specs.Prelude.{◌≡◌, ◌⊎◌, Bool, true, false, List, leb, eqb}
use Rattle.std.proofs.Math.Path.{refl, ap}
use Rattle.std.proofs.Common.{◌∙◌, inl, inr, leb-true, leb-false, le-leb, eqb-true}
use Rattle.std.proofs.Math.Bool.{cond}
use native.Mathlib.Omega.{arith}
use Rattle.std.proofs.Math.Nat.{mul-le-mul_left, le_of_mul-le-mul_left, lt_of_mul-lt-mul_left}
use Rattle.std.proofs.lemmas.Bool.{lt-leb}
use Rattle.model.specs.Words.{All}
use Rattle.model.specs.Total.{total}
use Rattle.model.specs.Formula.{residual, delay_bound, backlog_bound}
use Rattle.model.specs.Run.{Frame, Wire, idle, sending, sending_best_effort, LinkState, sending_time, window, in_queue}
use Rattle.model.proofs.Laws.Run.BoundSums.{delay-sum, backlog-sum}
use Rattle.model.proofs.Laws.All.{member-all, all-imp}
use Rattle.model.proofs.Laws.Total.{total-each}
use Rattle.model.proofs.Laws.Test.{cond-le}
use Rattle.model.proofs.Laws.Run.Windows.{window-mono, window-add, window-within}
use Rattle.model.proofs.Laws.Run.OneLink.{Long, waiting, under_way, held, OnWire, waiting-le, held-le}
use Rattle.model.proofs.Laws.Run.EachFrame.{each-up}
use Rattle.model.proofs.Laws.Run.Workload.{wire_slots, some-time, whole, unsent}
use Rattle.model.proofs.Laws.Run.LevelArrivals.{own, own-whole, bytes}
use Rattle.model.proofs.Laws.Run.BusyPeriod.{Sound, Served, above, up_to, Busy, Gone, after-level, after-load, after-each, busy}
use Rattle.model.proofs.Laws.Run.InQueue.{queue-weight, queue-each, came-later}
use Rattle.model.proofs.Laws.Run.ArrivalCurve.{Curve, curve-zero, curve-add}

-- A frame that is there is not yet wholly sent.
some-unsent : (grain : ℕ) → 1 ≤ grain → (m : ℕ → Frame → ℕ) (k : ℕ) (w : Wire) → 1 ≤ under_way m w + k → 1 ≤ wire_slots w + sending_time grain k
unfolding under_way wire_slots
some-unsent grain divided m k idle h = omega (arith, some-time grain k divided (omega arith))
some-unsent grain divided m k (sending n f more) h = omega arith
some-unsent grain divided m k (sending_best_effort more) h = omega arith

-- What is under way of a level is one frame at most.
own-wire : (p a largest : ℕ) (w : Wire) → OnWire (λ n f. n ≡ p → f.length ≤ largest) w → under_way (own p a) w ≤ largest
unfolding under_way own
own-wire p a largest idle h = omega arith
own-wire p a largest (sending n f more) h = go (eqb n p) refl
  where
    go : (b : Bool) → eqb n p ≡ b → cond b (cond (leb f.since a) f.length 0) 0 ≤ largest
    go true e = omega (arith, h (eqb-true n p e), cond-le (leb f.since a) f.length)
    go false e = omega arith
own-wire p a largest (sending_best_effort more) h = omega arith

module _ {grain speed most h : ℕ} {largest : ℕ → ℕ} {before after : ℕ → LinkState} {new : (x level : ℕ) → List Frame}
    (s : Served grain speed most h largest before after new) (burst rate : ℕ → ℕ)
    (curves : (n : ℕ) → Curve h (burst n) (rate n) (λ x. bytes (new x n))) where
  above-curve : (q : ℕ) → Curve h (window burst 1 q) (window rate 1 q) (above new q)
  unfolding above window
  above-curve zero = curve-zero h 0 0 (above new 0) (λ x. refl)
  above-curve (suc q) =
      curve-add h (window burst 1 q) (window rate 1 q) (burst (1 + q)) (rate (1 + q)) (above new q) (λ x. bytes (new x (1 + q))) (above-curve q) (curves (1 + q))

  up_to-le : (q a first n : ℕ) → first ≤ a → window (up_to new q a) first n ≤ window (λ x. bytes (new x (suc q))) first (suc (a - first))
  unfolding up_to
  up_to-le q a first n u =
      omega (
        arith,
        window-within (up_to new q a) first (suc (a - first)) n (λ x l. ap (λ b. cond b (bytes (new x (suc q))) 0) (lt-leb x a (omega arith))),
        window-mono (up_to new q a) (λ x. bytes (new x (suc q))) first (suc (a - first)) (λ x l k. cond-le (leb x a) (bytes (new x (suc q)))),
      )

  module _ (q blocking : ℕ) (blocked : (n : ℕ) → suc q < n → largest n ≤ blocking) (alone : most ≤ blocking)
      (rates : window rate 1 q + rate (suc q) < 1000 * speed) where
    abbrev y : ℕ
    y = window burst 1 q + blocking + largest (suc q)

    abbrev res : ℕ
    res = residual speed (window rate 1 q)

    module _ (threshold : ℕ) (pos : 1 ≤ threshold) (bound : delay_bound y (burst (suc q)) res ≤ threshold) where
      too_long : (x a n : ℕ) → x ≤ h → a + threshold ≤ x → (b : Busy new grain speed q a blocking x (before x)) → b.count ≡ n →
          1 ≤ held (own (suc q) a) (before x) → ⊥
      unfolding unsent held sending_time
      too_long x a zero u late b e there = omega (arith, b.ends, b.early)
      too_long x a (suc n) u late b e there =
          delay-sum speed (window rate 1 q) (rate (suc q)) (window burst 1 q) (burst (suc q)) blocking (largest (suc q)) threshold n (a - b.first)
          (window (above new q) b.first (suc n))
          (window (up_to new q a) b.first (suc n))
          rates
          bound
          (omega (arith, b.ends, b.early))
          (above-curve q b.first n (omega (arith, b.ends)))
          (omega (arith, up_to-le q a b.first (suc n) b.early, curves (suc q) b.first (a - b.first) (omega (arith, b.early))))
          (omega (arith, load))
        where
          pending : 1 ≤ unsent grain (suc q) a (before x)
          pending =
              some-unsent grain s.divided (whole (suc q) a) (waiting (whole (suc q) a) 1 (before x).levels) (before x).wire
              (omega (arith, held-le (own (suc q) a) (whole (suc q) a) (own-whole (suc q) a) (before x)))

          total-load : unsent grain (suc q) a (before x) + grain * speed * suc n
              ≤ sending_time grain (blocking + window (λ x. above new q x + up_to new q a x) b.first (suc n))
          total-load = rw e at b.load

          load : speed * suc n < 8 * blocking + 8 * (window (above new q) b.first (suc n) + window (up_to new q a) b.first (suc n))
          load =
              lt_of_mul-lt-mul_left grain
              (omega (arith, pending, total-load, ap (λ z. grain * z) (window-add (above new q) (up_to new q a) b.first (suc n))))

      -- Nothing is left of what came so long ago.
      delay : (x a : ℕ) → x ≤ h → a + threshold ≤ x → held (own (suc q) a) (before x) ≡ 0
      delay x a u late = go (busy s q a blocking blocked alone x u)
        where
          go : Busy new grain speed q a blocking x (before x) ⊎ Gone q a x (before x) → held (own (suc q) a) (before x) ≡ 0
          go (inr g) = g.1
          go (inl b) = nothing (held (own (suc q) a) (before x)) refl
            where
              nothing : (k : ℕ) → held (own (suc q) a) (before x) ≡ k → k ≡ 0
              nothing zero e = refl
              nothing (suc k) e = absurd (too_long x a b.count u late b refl (omega arith))

      pub not_late : (x : ℕ) → x ≤ h → All (λ f. x < f.since + threshold) (in_queue (suc q) (before x))
      unfolding own
      not_late x u = go (leb threshold x) refl
        where
          long : All (λ f. 1 ≤ f.length) (in_queue (suc q) (before x))
          long = queue-each Long (suc q) (before x) (each-up (Sound largest x) Long (λ n f k. k.long) (before x) (s.frames x u))

          go : (b : Bool) → leb threshold x ≡ b → All (λ f. x < f.since + threshold) (in_queue (suc q) (before x))
          go false e = member-all (λ f. x < f.since + threshold) (in_queue (suc q) (before x)) (λ f m. omega (arith, leb-false threshold x e))
          go true e =
              let a : ℕ = x - threshold in
              let d : a + threshold ≡ x = omega (arith, leb-true threshold x e) in
              all-imp {P = λ f. a < f.since} (in_queue (suc q) (before x)) (λ f k. omega arith)
              (came-later a (in_queue (suc q) (before x)) long
              (queue-weight (λ f. cond (leb f.since a) f.length 0) q (before x) ∙ delay x a u (omega arith)))

    -- Only a frame under way has slots sent.
    mostly : (x : ℕ) → x ≤ h → sending_time grain (held (own (suc q) x) (after x)) ≤ unsent grain (suc q) x (after x) + sending_time grain (largest (suc q))
    unfolding held unsent sending_time
    mostly x u = omega (arith, mul-le-mul_left grain less)
      where
        wire : OnWire (λ n f. n ≡ suc q → f.length ≤ largest (suc q)) (after x).wire
        wire =
            (each-up (Sound largest x) (λ n f. n ≡ suc q → f.length ≤ largest (suc q)) (λ n f k e. omega (arith, k.short, ap largest e)) (after x)
            (after-each s x u)).wire

        less : held (own (suc q) x) (after x) ≤ largest (suc q) + waiting (whole (suc q) x) 1 (after x).levels
        less =
            omega (
              arith,
              own-wire (suc q) x (largest (suc q)) (after x).wire wire,
              waiting-le (own (suc q) x) (whole (suc q) x) (own-whole (suc q) x) 1 (after x).levels,
            )

    backlog : (x : ℕ) → x ≤ h → held (own (suc q) x) (after x) ≤ backlog_bound (rate (suc q)) (burst (suc q)) y res
    unfolding window sending_time
    backlog x u = go (busy s q x blocking blocked alone x u)
      where
        go : Busy new grain speed q x blocking x (before x) ⊎ Gone q x x (before x) →
            held (own (suc q) x) (after x) ≤ backlog_bound (rate (suc q)) (burst (suc q)) y res
        go (inr g) = absurd (omega (arith, g.0))
        go (inl b) =
            backlog-sum speed (window rate 1 q) (rate (suc q)) (window burst 1 q) (burst (suc q)) blocking (largest (suc q)) b.count
            there
            (window (above new q) b.first (suc b.count))
            (window (up_to new q x) b.first (suc b.count))
            (8 * there - 8 * largest (suc q))
            rates
            (omega (arith, b.level, after-level s q x x u, ap (up_to new q x) b.ends))
            (omega arith)
            (above-curve q b.first b.count (omega (arith, b.ends)))
            (omega (arith, up_to-le q x b.first (suc b.count) b.early, curve))
            (omega (arith, worked, left))
          where
            there : ℕ
            there = held (own (suc q) x) (after x)

            come : ℕ
            come = 8 * blocking + 8 * (window (above new q) b.first (suc b.count) + window (up_to new q x) b.first (suc b.count))

            load : unsent grain (suc q) x (after x) + grain * (speed * b.count) ≤ grain * come
            load =
                omega (
                  arith,
                  b.load,
                  after-load s q x x u,
                  ap (λ y. grain * (above new q y + up_to new q x y)) b.ends,
                  ap (λ z. grain * z) (window-add (above new q) (up_to new q x) b.first b.count),
                )

            worked : speed * b.count ≤ come
            worked = le_of_mul-le-mul_left {k = grain} (omega (arith, load)) s.divided

            left : 8 * there + speed * b.count ≤ come + 8 * largest (suc q)
            left = le_of_mul-le-mul_left {k = grain} (omega (arith, load, mostly x u)) s.divided

            since : x - b.first ≡ b.count
            since = omega (arith, b.ends)

            curve : 8000 * window (λ z. bytes (new z (suc q))) b.first (suc (x - b.first)) ≤ 8000 * burst (suc q) + rate (suc q) * b.count
            curve = rw since (curves (suc q) b.first b.count (omega (arith, b.ends)))

    pub fits : (x : ℕ) → x ≤ h → total (λ f. f.length) (in_queue (suc q) (after x)) ≤ backlog_bound (rate (suc q)) (burst (suc q)) y res
    unfolding own
    fits x u =
        omega (
          arith,
          backlog x u,
          queue-weight (λ f. cond (leb f.since x) f.length 0) q (after x),
          total-each (λ f. f.since ≤ x) (λ f. f.length) (λ f. cond (leb f.since x) f.length 0) (in_queue (suc q) (after x))
              (λ f k. rw (le-leb f.since x k) (omega arith))
              (queue-each (λ n f. f.since ≤ x) (suc q) (after x) (each-up (Sound largest x) (λ n f. f.since ≤ x) (λ n f k. k.came) (after x) (after-each s x u))),
        )
