-- The network: while no frame has been late, a frame reaches a hop at most S later than cables and shortest sending times alone make it, and in all at most the earlier hops' thresholds and cables after it was sent.
-- Induction over all earlier instants, not over paths, so that cycles of links do no harm. Assumes nothing.
use Rattle.std.specs.Prelude.{ℕ, zero, suc, ◌+◌, ◌*◌, ◌≤◌, ◌<◌, ◌≡◌, refl, List, [], ◌∷◌}
use Rattle.std.proofs.Common.{sym, ◌∙◌}
use Rattle.std.proofs.Math.Path.{ap}
use Rattle.std.proofs.Math.Option.{some, none-ne-some}
use native.Mathlib.Omega.{arith}
use Rattle.std.proofs.Math.ListN.{get_elem?}
use Rattle.model.specs.Words.{All}
use Rattle.model.specs.Formula.{shortest_sending}
use Rattle.model.specs.QueueTable.{Table}
use Rattle.model.specs.Orders.{Hop, Flow}
use Rattle.model.specs.Aggregates.{link_at, queue_at, threshold_of, speed_of, fixed_delay_of, growth}
use Rattle.model.specs.Reference.{hop_delay}
use Rattle.model.specs.Schedulable.{Named, FlowMeets, Schedulable}
use Rattle.model.specs.Run.{Frame, Sends, Run, hop_of, next, in_queue}
use Rattle.model.proofs.Laws.All.{all-imp, all-imp₂, all-at}
use Rattle.model.proofs.Laws.Formula.{growth-least}
use Rattle.model.proofs.Laws.Run.Instants.{at_each}
use Rattle.model.proofs.Laws.Run.Standing.{hop, moved, known-hop, moved_all, arrivals-all}
use Rattle.model.proofs.Laws.Run.OneLink.{EachLevel, OnWire, Each}
use Rattle.model.proofs.Laws.Run.EachFrame.{interval-each, enter-each, empty-each, levels-both, wire-both}
use Rattle.model.proofs.Laws.Run.InQueue.{each-queue}
use Rattle.model.proofs.Laws.Run.LeastStay.{least-stay}

-- The sum of a measure over a path's hops before index `i`.
unfoldable pub sum_before : (measure : Hop → ℕ) → List Hop → (i : ℕ) → ℕ
sum_before m path zero = 0
sum_before m [] (suc i) = 0
sum_before m (h ∷ path) (suc i) = m h + sum_before m path i

-- S at a hop, and the least time from the source to there: at each hop before it the shortest sending time and the cable.
abbrev pub upstream : Table → List Hop → (i : ℕ) → ℕ
upstream t path i = sum_before (growth t) path i

abbrev pub least_delay : Table → Hop → ℕ
least_delay t h = shortest_sending (speed_of (link_at t h.link)) + fixed_delay_of (link_at t h.link)

abbrev pub soonest : Table → List Hop → (i : ℕ) → ℕ
soonest t path i = sum_before (least_delay t) path i

-- A frame of a flow, which has come to its hop no sooner than that and at most S later, and within the thresholds and cables before it.
pub record OnTime (t : Table) (fs : List Flow) (f : Frame) : Type 0 where
  pub flow : Flow
  pub known : get_elem? fs f.flow ≡ some flow
  pub long : 84 ≤ f.length
  pub short : f.length ≤ flow.frame
  pub not_sooner : f.born + soonest t flow.path f.hop ≤ f.since
  pub jitter : f.since ≤ f.born + soonest t flow.path f.hop + upstream t flow.path f.hop
  pub in_time : f.since ≤ f.born + sum_before (hop_delay t) flow.path f.hop

-- It stands in queue (link, level), and at instant `x` it is not past its threshold.
pub record Placed (t : Table) (fs : List Flow) (x link level : ℕ) (f : Frame) : Type 0 where
  pub on_time : OnTime t fs f
  pub here : hop_of fs f ≡ some (hop link level)
  pub came : f.since ≤ x
  pub soon : x ≤ f.since + threshold_of (queue_at t (hop link level))

-- No frame is late before instant `x`.
abbrev pub NotLate : (t : Table) (fs : List Flow) → Run t fs → (x : ℕ) → Type 0
NotLate t fs r x = (link level : ℕ) → All (λ f. x < f.since + threshold_of (queue_at t (hop link level))) (in_queue level (r.before x link))

sum-next : (m : Hop → ℕ) (path : List Hop) (i : ℕ) (h : Hop) → get_elem? path i ≡ some h → sum_before m path (suc i) ≡ sum_before m path i + m h
unfolding sum_before
sum-next m [] i h e = absurd (none-ne-some h e)
sum-next m (k ∷ path) zero h e =
    let d : k ≡ h = cc in
    omega (arith, ap m d)
sum-next m (k ∷ path) (suc i) h e = omega (arith, sum-next m path i h e)

module _ (t : Table) (fs : List Flow) (sch : Schedulable t fs) (r : Run t fs) where
  pub meets : (f : Frame) → (o : OnTime t fs f) → FlowMeets t fs o.flow
  meets f o = all-at (FlowMeets t fs) fs f.flow o.flow sch.flows o.known

  pub named : (f : Frame) (o : OnTime t fs f) (h : Hop) → hop_of fs f ≡ some h → Named t h
  named f o h e = all-at (Named t) o.flow.path f.hop h (meets f o).queues (sym (known-hop fs f o.flow o.known) ∙ e)

  positive : (f : Frame) (o : OnTime t fs f) (h : Hop) → hop_of fs f ≡ some h → 1 ≤ threshold_of (queue_at t h)
  unfolding threshold_of
  positive f o h e =
      let n = named f o h e in
      rw n.found (sch.thresholds h n.queue n.found)

  -- What the hop of a frame adds to a sum over the hops before.
  hop-adds : (m : Hop → ℕ) (n level : ℕ) (f : Frame) (o : OnTime t fs f) → hop_of fs f ≡ some (hop n level) →
      sum_before m o.flow.path (suc f.hop) ≡ sum_before m o.flow.path f.hop + m (hop n level)
  hop-adds m n level f o here = sum-next m o.flow.path f.hop (hop n level) (sym (known-hop fs f o.flow o.known) ∙ here)

  -- A frame that leaves a queue within its threshold is behind the cable in time.
  pub leaves : (y n level : ℕ) (f : Frame) (p : Placed t fs y n level f) →
      y + fixed_delay_of (link_at t n) ≤ f.born + sum_before (hop_delay t) p.on_time.flow.path (suc f.hop)
  leaves y n level f p = omega (arith, p.on_time.in_time, p.soon, hop-adds (hop_delay t) n level f p.on_time p.here)

  -- So it reaches the next hop in time, and, having stayed the shortest sending time or longer, not too soon.
  reaches : (x y n level : ℕ) (f : Frame) → y + fixed_delay_of (link_at t n) ≡ x → f.since + shortest_sending (speed_of (link_at t n)) ≤ y →
      Placed t fs y n level f → OnTime t fs (next x f)
  unfolding next
  reaches x y n level f d stay p =
      let o = p.on_time in
      let least = hop-adds (least_delay t) n level f o p.here in
      record {
        flow = o.flow;
        known = o.known;
        long = o.long;
        short = o.short;
        not_sooner = omega (arith, o.not_sooner, stay, d, least);
        jitter =
            omega (
              arith,
              o.jitter,
              p.soon,
              d,
              least,
              hop-adds (growth t) n level f o p.here,
              growth-least (threshold_of (queue_at t (hop n level))) (speed_of (link_at t n)),
            );
        in_time = omega (arith, d, leaves y n level f p);
      }

  added : (x : ℕ) (f : Frame) → Sends fs x f → OnTime t fs f
  unfolding sum_before
  added x f s =
      let first : soonest t s.flow.path f.hop ≡ 0 = ap (soonest t s.flow.path) s.first in
      record {
        flow = s.flow;
        known = s.known;
        long = s.least;
        short = s.most;
        not_sooner = omega (arith, s.since, s.born, first);
        jitter = omega (arith, s.since, s.born);
        in_time = omega (arith, s.since, s.born);
      }

  -- Each frame of each link, before the arrivals of an instant.
  abbrev AllPlaced : ℕ → Type 0
  AllPlaced x = (n : ℕ) → Each (Placed t fs x n) (r.before x n)

  moved-on-time : (x : ℕ) → ((y : ℕ) → y ≤ x → AllPlaced y) → All (λ f. OnTime t fs f × (f.since ≡ x)) (moved r x)
  unfolding next
  moved-on-time x each =
      moved_all t fs r (λ f. OnTime t fs f × (f.since ≡ x)) x
      (λ n y d.
      all-imp₂ (r.before y n).left (λ f stay p. (reaches x y n p.0 f d stay p.1, refl)) (least-stay t fs r y n) (each y (omega (arith, d)) n).left)
      (all-imp (r.sent x) (λ f s. (added x f s, s.since)) (r.sends x))

  pub arrived : (x : ℕ) → All (λ f. OnTime t fs f × (f.since ≡ x)) (moved r x) →
      (n level : ℕ) → All (λ f. (OnTime t fs f × (f.since ≡ x)) × (hop_of fs f ≡ some (hop n level))) (r.arrivals x n level)
  arrived x = arrivals-all t fs r (λ f. OnTime t fs f × (f.since ≡ x)) x

  pub after-placed : (x : ℕ) → NotLate t fs r x → ((y : ℕ) → y ≤ x → AllPlaced y) → (n : ℕ) → Each (Placed t fs (suc x) n) (r.after x n)
  after-placed x ok each n =
      let here = each x (omega arith) n in
      rw (r.enters x n)
      (enter-each (Placed t fs (suc x) n) (r.arrivals x n) (r.before x n) new
      (wire-both (Placed t fs x n) Soon (Placed t fs (suc x) n) stays (r.before x n).wire here.wire queues.0)
      (levels-both (Placed t fs x n) Soon (Placed t fs (suc x) n) stays 1 (r.before x n).levels here.levels queues.1))
    where
      Soon : ℕ → Frame → Type 0
      Soon level f = x < f.since + threshold_of (queue_at t (hop n level))

      queues : OnWire Soon (r.before x n).wire × EachLevel Soon 1 (r.before x n).levels
      queues = each-queue Soon (r.before x n) (ok n)

      stays : (level : ℕ) (f : Frame) → Placed t fs x n level f → Soon level f → Placed t fs (suc x) n level f
      stays level f p s = record { on_time = p.on_time; here = p.here; came = omega (arith, p.came); soon = s }

      new : (level : ℕ) → All (Placed t fs (suc x) n level) (r.arrivals x n level)
      new level =
          all-imp (r.arrivals x n level)
          (λ f a.
          record {
            on_time = a.0.0;
            here = a.1;
            came = omega (arith, a.0.1);
            soon = omega (arith, a.0.1, positive f a.0.0 (hop n level) a.1);
          })
          (arrived x (moved-on-time x each) n level)

  pub placed : (x : ℕ) → ((m : ℕ) → m < x → NotLate t fs r m) → AllPlaced x
  placed = at_each (λ x. ((m : ℕ) → m < x → NotLate t fs r m) → AllPlaced x) step
    where
      step : (x : ℕ) → ((y : ℕ) → y < x → ((m : ℕ) → m < y → NotLate t fs r m) → AllPlaced y) → ((m : ℕ) → m < x → NotLate t fs r m) → AllPlaced x
      step zero before ok n = rw (r.starts n) (empty-each (Placed t fs 0 n) (link_at t n))
      step (suc x) before ok n =
          rw (r.serves x n)
          (interval-each (Placed t fs (suc x) n) r.grain (r.offered x n) (r.grain * speed_of (link_at t n)) (r.after x n)
          (after-placed x (ok x (omega arith)) (λ y u. before y (omega arith) (λ m v. ok m (omega arith))) n))

  -- All that moves up to the instant after those with no late frame is on time.
  pub moves : (x : ℕ) → ((m : ℕ) → m < x → NotLate t fs r m) → All (λ f. OnTime t fs f × (f.since ≡ x)) (moved r x)
  moves x ok = moved-on-time x (λ y u. placed y (λ m v. ok m (omega arith)))
