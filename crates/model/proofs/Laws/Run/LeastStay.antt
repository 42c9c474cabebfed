-- In every run, whatever its sources send, no frame leaves a queue sooner than the shortest sending time after it came.
-- Slot by slot, the slots of a smallest frame and those before the frame came are covered by those still to be sent of it and those that have passed. Assumes nothing.
use Prim.Native.Nat.{ℕ, zero, suc, ◌+◌, ◌-◌, ◌*◌, ◌≤◌, ◌<◌}
use Rattle.std.specs.Prelude.{◌≡◌, refl, List, [], ◌∷◌}
use Rattle.std.proofs.Common.{ap, arith, mul-le-mul_left}
use Rattle.std.proofs.Math.Path.{subst}
use Rattle.std.proofs.Math.Option.{Option, none, some}
use Rattle.std.proofs.Math.Nat.{le_of_mul-le-mul_left}
use Rattle.model.specs.Words.{All}
use Rattle.model.specs.Formula.{shortest_sending}
use Rattle.model.specs.QueueTable.{Link, Table}
use Rattle.model.specs.Orders.{Flow}
use Rattle.model.specs.Aggregates.{link_at, speed_of}
use Rattle.model.specs.Run.{Frame, Wire, idle, sending, sending_best_effort, LinkState, Pick, pick, sending_time, start_best_effort, start, take, send, time_slot, interval, next, enter, empty_link, Run}
use Rattle.model.proofs.Laws.All.{all-imp, all_append}
use Rattle.model.proofs.Laws.Formula.{ceil_div-le}
use Rattle.model.proofs.Laws.Run.Instants.{at_each}
use Rattle.model.proofs.Laws.Run.OneLink.{EachLevel, link}
use Rattle.model.proofs.Laws.Run.EachFrame.{PickEach, pick-each, append-each, empty-levels, levels-up}
use Rattle.model.proofs.Laws.Run.Standing.{moved_all, arrivals-all}

-- In slots: `came` those before a frame came, `passed` all so far.
module _ (grain : ℕ) (came : Frame → ℕ) where
  -- A frame of which so many slots are still to be sent.
  abbrev Covers : (passed remaining : ℕ) → Frame → Type 0
  Covers passed remaining f = (84 ≤ f.length) × (sending_time grain 84 + came f ≤ remaining + passed)

  abbrev Waiting : (passed level : ℕ) → Frame → Type 0
  Waiting passed level f = Covers passed (sending_time grain f.length) f

  abbrev WireCovers : (passed : ℕ) → Wire → Type 0
  WireCovers passed idle = Unit {0}
  WireCovers passed (sending n f more) = Covers passed (suc more) f
  WireCovers passed (sending_best_effort more) = Unit {0}

  record Covered (passed : ℕ) (l : LinkState) : Type 0 where
    wire : WireCovers passed l.wire
    levels : EachLevel (Waiting passed) 1 l.levels
    left : All (Covers passed 0) l.left

  take-covered : (offered passed : ℕ) (w : Wire) (qs : List (List Frame)) (d : List Frame) → Covered passed (link w qs d) → Covered passed (take grain offered (link w qs d))
  unfolding take start start_best_effort
  take-covered offered passed idle qs d h = go (pick 1 qs) offered (pick-each (Waiting passed) 1 qs h.levels)
    where
      go : (o : Option Pick) (bytes : ℕ) → PickEach (Waiting passed) 1 o → Covered passed (start grain bytes o (link idle qs d))
      go none zero k = h
      go none (suc b) k = record { wire = tt; levels = h.levels; left = h.left }
      go (some p) b k = record { wire = (k.0.0, omega (arith, k.0.1)); levels = k.1; left = h.left }
  take-covered offered passed (sending n f more) qs d h = h
  take-covered offered passed (sending_best_effort more) qs d h = h

  -- A slot has passed; what was under way has one less to be sent.
  send-covered : (passed : ℕ) (w : Wire) (qs : List (List Frame)) (d : List Frame) → Covered passed (link w qs d) → Covered (suc passed) (send (link w qs d))
  unfolding send
  send-covered passed w qs d h = go w h.wire
    where
      levels : EachLevel (Waiting (suc passed)) 1 qs
      levels = levels-up (Waiting passed) (Waiting (suc passed)) (λ n f c. (c.0, omega (arith, c.1))) 1 qs h.levels

      left : All (Covers (suc passed) 0) d
      left = all-imp d (λ f c. (c.0, omega (arith, c.1))) h.left

      go : (w : Wire) → WireCovers passed w → Covered (suc passed) (send (link w qs d))
      go idle c = record { wire = tt; levels = levels; left = left }
      go (sending n f zero) c = record { wire = tt; levels = levels; left = all_append (Covers (suc passed) 0) d (f ∷ []) left ((c.0, omega (arith, c.1)), tt) }
      go (sending n f (suc more)) c = record { wire = (c.0, omega (arith, c.1)); levels = levels; left = left }
      go (sending_best_effort zero) c = record { wire = tt; levels = levels; left = left }
      go (sending_best_effort (suc more)) c = record { wire = tt; levels = levels; left = left }

  interval-covered : (offered : ℕ → ℕ) (passed n : ℕ) (l : LinkState) → Covered passed l → Covered (passed + n) (interval grain offered n l)
  unfolding interval time_slot
  interval-covered offered passed zero l h = subst (λ z. Covered z l) (omega arith) h
  interval-covered offered passed (suc n) l h =
      let i = interval grain offered n l in
      let k = take grain (offered n) i in
      let c = take-covered (offered n) (passed + n) i.wire i.levels i.left (interval-covered offered passed n l h) in
      subst (λ z. Covered z (send k)) (omega arith) (send-covered (passed + n) k.wire k.levels k.left c)

  enter-covered : (passed : ℕ) (new : ℕ → List Frame) (l : LinkState) → ((n : ℕ) → All (Waiting passed n) (new n)) → Covered passed l → Covered passed (enter new l)
  unfolding enter
  enter-covered passed new l k h = record { wire = h.wire; levels = append-each (Waiting passed) new k 1 l.levels h.levels; left = tt }

  empty-covered : (passed : ℕ) (k : Option Link) → Covered passed (empty_link k)
  unfolding empty_link
  empty-covered passed none = record { wire = tt; levels = tt; left = tt }
  empty-covered passed (some k) = record { wire = tt; levels = empty-levels (Waiting passed) 1 k.levels; left = tt }

-- From bits to µs, whatever the speed.
in-micros : (speed since x : ℕ) → 672 + speed * since ≤ speed * x → since + shortest_sending speed ≤ x
unfolding shortest_sending
in-micros zero since x h = absurd (omega (arith, h))
in-micros (suc c) since x h = go (x - since) refl
  where
    speed : ℕ
    speed = suc c

    go : (stay : ℕ) → x - since ≡ stay → since + shortest_sending speed ≤ x
    go zero e =
        let early : x ≤ since = omega arith in
        absurd (omega (arith, h, mul-le-mul_left speed early))
    go (suc d) e =
        let sum : x ≡ since + suc d = omega arith in
        omega (arith, sum, ceil_div-le 672 speed (suc d) (omega arith) (omega (arith, h, ap (λ z. speed * z) sum)))

module _ (t : Table) (fs : List Flow) (r : Run t fs) where
  -- The slots that link `n` has up to instant `x`.
  abbrev slots : (n x : ℕ) → ℕ
  slots n x = r.grain * (speed_of (link_at t n) * x)

  abbrev AllCovered : ℕ → Type 0
  AllCovered x = (n : ℕ) → Covered r.grain (λ f. slots n f.since) (slots n x) (r.before x n)

  covered : (x : ℕ) → AllCovered x
  unfolding next sending_time
  covered = at_each AllCovered step
    where
      arrived : (x : ℕ) → ((y : ℕ) → y ≤ x → AllCovered y) → (n level : ℕ) → All (λ f. (84 ≤ f.length) × (f.since ≡ x)) (r.arrivals x n level)
      arrived x each n level =
          all-imp (r.arrivals x n level) (λ f p. p.0)
          (arrivals-all t fs r (λ f. (84 ≤ f.length) × (f.since ≡ x)) x
          (moved_all t fs r (λ f. (84 ≤ f.length) × (f.since ≡ x)) x
          (λ n y d. all-imp (r.before y n).left (λ f c. (c.0, refl)) (each y (omega (arith, d)) n).left)
          (all-imp (r.sent x) (λ f s. (s.least, s.since)) (r.sends x)))
          n level)

      step : (x : ℕ) → ((y : ℕ) → y < x → AllCovered y) → AllCovered x
      step zero before n = rw (r.starts n) (empty-covered r.grain (λ f. slots n f.since) (slots n 0) (link_at t n))
      step (suc x) before n =
          rw (r.serves x n)
          (subst (λ z. Covered r.grain (λ f. slots n f.since) z (interval r.grain (r.offered x n) (r.grain * speed_of (link_at t n)) (r.after x n)))
          (omega arith)
          (interval-covered r.grain (λ f. slots n f.since) (r.offered x n) (slots n x) (r.grain * speed_of (link_at t n)) (r.after x n)
          (rw (r.enters x n)
          (enter-covered r.grain (λ f. slots n f.since) (slots n x) (r.arrivals x n) (r.before x n)
          (λ level.
          all-imp (r.arrivals x n level)
          (λ f p. (p.0, omega (arith, mul-le-mul_left r.grain p.0, ap (λ z. slots n z) p.1)))
          (arrived x (λ y u. before y (omega arith)) n level))
          (before x (omega arith) n)))))

  -- A frame that has left link `n` by instant `x`.
  pub least-stay : (x n : ℕ) → All (λ f. f.since + shortest_sending (speed_of (link_at t n)) ≤ x) (r.before x n).left
  unfolding sending_time
  least-stay x n =
      all-imp (r.before x n).left
      (λ f c. in-micros (speed_of (link_at t n)) f.since x (le_of_mul-le-mul_left {k = r.grain} (omega (arith, c.1)) r.divided))
      (covered x n).left
