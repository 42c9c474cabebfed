-- The network and its links together: no frame is late and no queue overflows, by induction over instants.
-- A queue with a frame in it carries a flow, so its link was checked; a queue without one has nothing to show. Assumes nothing.
use Prim.Native.Nat.{ℕ, zero, suc, ◌+◌, ◌≤◌, ◌<◌}
use Rattle.std.specs.Prelude.{◌≡◌, Bool, true, false, cond, List, [], ◌∷◌, length, leb}
use Rattle.std.proofs.Math.Path.{refl, ap}
use Rattle.std.proofs.Common.{sym, ◌∙◌, arith, leb-true, le-leb}
use Rattle.std.proofs.Math.Option.{some, none-ne-some, some-injective}
use Rattle.std.proofs.Math.ListN.{get_elem?}
use Rattle.model.specs.Words.{All, nth}
use Rattle.model.specs.Total.{total}
use Rattle.model.specs.QueueTable.{Queue, Link, Table}
use Rattle.model.specs.Orders.{Hop, Flow}
use Rattle.model.specs.Aggregates.{link_at, queue_at, threshold_of, speed_of, best_effort_of, shares_at, aggregate_at}
use Rattle.model.proofs.Laws.Test.{and-then}
use Rattle.model.proofs.Laws.Carries.{flow-frame}
use Rattle.model.specs.Schedulable.{LinkMeets, Schedulable}
use Rattle.model.specs.Run.{Frame, Run, Conforming, hop_of, in_queue}
use Rattle.model.proofs.Laws.List.{index_below}
use Rattle.model.proofs.Laws.All.{member-at, all-at, all-imp}
use Rattle.model.proofs.Laws.Run.Instants.{at-earlier}
use Rattle.model.proofs.Laws.Run.EachFrame.{each-up}
use Rattle.model.proofs.Laws.Run.BusyPeriod.{Sound, Served}
use Rattle.model.proofs.Laws.Run.InQueue.{queue-each}
use Rattle.model.proofs.Laws.Run.LevelBounds.{not_late, fits}
use Rattle.model.proofs.Laws.Run.Jitter.{OnTime, Placed, NotLate, meets, named, arrived, moves, placed, after-placed}
use Rattle.model.proofs.Laws.Run.Standing.{hop, known-hop}
use Rattle.model.proofs.Laws.Run.QueueCurve.{queue-curve}
use Rattle.model.proofs.Laws.Run.LinkChecks.{at, Passes, passes}

-- A queue of the table, with its link.
record Found (t : Table) (link i : ℕ) : Type 0 where
  of : Link
  is_link : link_at t link ≡ some of
  queue : Queue
  is_queue : get_elem? of.levels i ≡ some queue
  is_found : queue_at t (hop link (suc i)) ≡ some queue

found : (t : Table) (link i : ℕ) (q : Queue) → queue_at t (hop link (suc i)) ≡ some q → Found t link i
unfolding queue_at nth
found t link i q e =
    let (l, is_link, is_queue) = and-then (link_at t link) (λ l. nth l.levels (suc i)) e in
    record { of = l; is_link = is_link; queue = q; is_queue = is_queue; is_found = e }

no-level-0 : (t : Table) (link : ℕ) (q : Queue) → queue_at t (hop link 0) ≡ some q → ⊥
unfolding queue_at nth
no-level-0 t link q e = let (l, is_link, is_queue) = and-then (link_at t link) (λ l. nth l.levels 0) e in none-ne-some q is_queue

module _ (t : Table) (fs : List Flow) (sch : Schedulable t fs) (r : Run t fs) (conforming : Conforming fs r.sent) where
  -- A frame that stands in a queue shows that the queue is one of the table and carries a flow.
  witness : (f : Frame) (o : OnTime t fs f) (n i : ℕ) → hop_of fs f ≡ some (hop n (suc i)) → Found t n i
  witness f o n i e = let q = named t fs sch r f o (hop n (suc i)) e in found t n i q.queue q.found

  level-0 : (f : Frame) (n : ℕ) (o : OnTime t fs f) → hop_of fs f ≡ some (hop n 0) → ⊥
  level-0 f n o e = let q = named t fs sch r f o (hop n 0) e in no-level-0 t n q.queue q.found

  threshold-is : (h : Hop) (q : Queue) → queue_at t h ≡ some q → threshold_of (queue_at t h) ≡ q.threshold
  unfolding threshold_of
  threshold-is h q e = ap threshold_of e

  frame-most : (f : Frame) (o : OnTime t fs f) (h : Hop) → hop_of fs f ≡ some h → f.length ≤ (aggregate_at t fs h).frame
  unfolding shares_at aggregate_at
  frame-most f o h e =
      omega (arith, o.short, flow-frame t h o.flow (member-at fs f.flow o.known) (member-at o.flow.path f.hop (sym (known-hop fs f o.flow o.known) ∙ e)))

  checked : (n i : ℕ) (f : Frame) (o : OnTime t fs f) → hop_of fs f ≡ some (hop n (suc i)) → (k : Found t n i) →
      Passes t fs n k.of.speed k.of.best_effort k.queue i (length k.of.levels)
  checked n i f o e k =
      passes t fs n k.of
      ((all-at (λ h. LinkMeets t fs h.link) o.flow.path f.hop (hop n (suc i)) (meets t fs sch r f o).links
      (sym (known-hop fs f o.flow o.known) ∙ e)).meets k.of k.is_link)
      i k.queue k.is_queue

  -- The largest frame of a level of a link with so many levels.
  abbrev lim : (n last level : ℕ) → ℕ
  lim n last level = cond (leb level last) (at t fs n level).frame 0

  lim_is : (n last level : ℕ) → level ≤ last → lim n last level ≡ (at t fs n level).frame
  lim_is n last level u = ap (λ b. cond b (at t fs n level).frame 0) (le-leb level last u)

  in-lim : (n : ℕ) (l : Link) → link_at t n ≡ some l → (level : ℕ) (f : Frame) (o : OnTime t fs f) →
      hop_of fs f ≡ some (hop n level) → f.length ≤ lim n (length l.levels) level
  in-lim n l e zero f o u = absurd (level-0 f n o u)
  in-lim n l e (suc j) f o u =
      let k = witness f o n j u in
      let same : k.of ≡ l = some-injective k.of l (sym k.is_link ∙ e) in
      omega (
        arith,
        frame-most f o (hop n (suc j)) u,
        lim_is n (length l.levels) (suc j) (omega (arith, index_below k.of.levels j k.queue k.is_queue, ap (λ z. length z.levels) same)),
      )

  -- One link, with its frames up to an instant before which none was late.
  module _ (x : ℕ) (ok : (m : ℕ) → m < x → NotLate t fs r m) where
    before-ok : (y : ℕ) → y ≤ x → (m : ℕ) → m < y → NotLate t fs r m
    before-ok y u m v = ok m (omega arith)

    served : (n : ℕ) (l : Link) → link_at t n ≡ some l →
        Served r.grain l.speed l.best_effort x (lim n (length l.levels)) (λ y. r.before y n) (λ y. r.after y n) (λ y. r.arrivals y n)
    unfolding speed_of best_effort_of
    served n l e =
        record {
          divided = r.divided;
          offered = λ y. r.offered y n;
          offers = λ y slot. rw e at (r.offers y n slot);
          link = some l;
          starts = rw e at (r.starts n);
          enters = λ y. r.enters y n;
          serves = λ y. rw e at (r.serves y n);
          frames = λ y u.
              each-up (Placed t fs y n) (Sound (lim n (length l.levels)) y)
              (λ level f p. record { long = omega (arith, p.on_time.long); short = in-lim n l e level f p.on_time p.here; came = p.came })
              (r.before y n)
              (placed t fs sch r y (before-ok y u) n);
          news = λ y u level.
              all-imp (r.arrivals y n level)
              (λ f a. (record { long = omega (arith, a.0.0.long); short = in-lim n l e level f a.0.0 a.1; came = omega (arith, a.0.1) }, a.0.1))
              (arrived t fs sch r y (moves t fs sch r y (before-ok y u)) n level);
        }

    module _ (n i : ℕ) (f : Frame) (o : OnTime t fs f) (e : hop_of fs f ≡ some (hop n (suc i))) where
      abbrev k : Found t n i
      k = witness f o n i e

      abbrev last : ℕ
      last = length k.of.levels

      abbrev c : Passes t fs n k.of.speed k.of.best_effort k.queue i last
      c = checked n i f o e k

      carries : 1 ≤ (at t fs n (suc i)).frame
      carries = omega (arith, o.long, frame-most f o (hop n (suc i)) e)

      blocked : (m : ℕ) → suc i < m → lim n last m ≤ c.blocking
      blocked m u = go (leb m last) refl
        where
          go : (b : Bool) → leb m last ≡ b → cond b (at t fs n m).frame 0 ≤ c.blocking
          go true v = c.blocked m u (leb-true m last v)
          go false v = omega arith

      own-lim : lim n last (suc i) ≡ (at t fs n (suc i)).frame
      own-lim = lim_is n last (suc i) (index_below k.of.levels i k.queue k.is_queue)

      level-not-late : All (λ g. x < g.since + k.queue.threshold) (in_queue (suc i) (r.before x n))
      level-not-late =
          not_late (served n k.of k.is_link) (λ m. (at t fs n m).burst) (λ m. (at t fs n m).rate) (λ m. queue-curve t fs sch r conforming x ok (hop n m))
          i c.blocking blocked c.alone c.rates k.queue.threshold (sch.thresholds (hop n (suc i)) k.queue k.is_found)
          (rw own-lim (c.delays carries))
          x
          (omega arith)

      level-fits : total (λ g. g.length) (in_queue (suc i) (r.after x n)) ≤ k.queue.buffer
      level-fits =
          let b = fits (served n k.of k.is_link) (λ m. (at t fs n m).burst) (λ m. (at t fs n m).rate) (λ m. queue-curve t fs sch r conforming x ok (hop n m))
          i c.blocking blocked c.alone c.rates x (omega arith) in
          omega (arith, rw own-lim at b, c.backlogs carries)

    -- A queue without a frame has nothing to show.
    now : NotLate t fs r x
    now n level = go level (in_queue level (r.before x n)) refl (queue-each (Placed t fs x n) level (r.before x n) (placed t fs sch r x ok n))
      where
        go : (level : ℕ) (q : List Frame) → in_queue level (r.before x n) ≡ q → All (Placed t fs x n level) q →
            All (λ f. x < f.since + threshold_of (queue_at t (hop n level))) q
        go level [] e p = tt
        go zero (f ∷ q) e p = absurd (level-0 f n p.0.on_time p.0.here)
        go (suc i) (f ∷ q) e p =
            let k = witness f p.0.on_time n i p.0.here in
            all-imp {P = λ g. x < g.since + k.queue.threshold} (f ∷ q)
            (λ g u. omega (arith, threshold-is (hop n (suc i)) k.queue k.is_found))
            (rw e at (level-not-late n i f p.0.on_time p.0.here))

  pub earlier : (x m : ℕ) → m < x → NotLate t fs r m
  earlier = at-earlier (NotLate t fs r) now

  pub never-late : (x : ℕ) (h : Hop) (q : Queue) → queue_at t h ≡ some q → All (λ f. x < f.since + q.threshold) (in_queue h.level (r.before x h.link))
  never-late x h q e =
      all-imp (in_queue h.level (r.before x h.link))
      (λ f u. omega (arith, threshold-is h q e))
      (now x (earlier x) h.link h.level)

  -- The frames of a queue after the arrivals of an instant.
  pub queue-placed : (x link level : ℕ) → All (Placed t fs (suc x) link level) (in_queue level (r.after x link))
  queue-placed x n level =
      queue-each (Placed t fs (suc x) n) level (r.after x n) (after-placed t fs sch r x (now x (earlier x)) (λ y u. placed t fs sch r y (earlier y)) n)

  pub always-fits : (x : ℕ) (h : Hop) (q : Queue) → queue_at t h ≡ some q → total (λ f. f.length) (in_queue h.level (r.after x h.link)) ≤ q.buffer
  unfolding total
  always-fits x h q e =
      go h.level e (in_queue h.level (r.after x h.link)) refl
      (queue-placed x n h.level)
    where
      n : ℕ
      n = h.link

      go : (level : ℕ) → queue_at t (hop n level) ≡ some q → (l : List Frame) → in_queue level (r.after x n) ≡ l →
          All (Placed t fs (suc x) n level) l → total (λ f. f.length) l ≤ q.buffer
      go level e [] u p = omega arith
      go zero e (f ∷ l) u p = absurd (level-0 f n p.0.on_time p.0.here)
      go (suc i) e (f ∷ l) u p =
          let k = witness f p.0.on_time n i p.0.here in
          let same : k.queue ≡ q = some-injective k.queue q (sym k.is_found ∙ e) in
          omega (arith, rw u at (level-fits x (earlier x) n i f p.0.on_time p.0.here), ap (λ z. z.buffer) same)
