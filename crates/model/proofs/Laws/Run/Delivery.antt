-- End to end: a frame behind its last cable is in time, for it came to each hop in time; none is lost; and each arrives, for none is in a queue or on a cable for longer.
-- From what holds of all that moves, of all weights, and of all frames in a queue or on a cable. Assumes nothing.
use Prim.Native.Nat.{ℕ, zero, suc, ◌+◌, ◌≤◌, ◌<◌}
use Rattle.std.specs.Prelude.{◌≡◌, refl, Bool, true, false, cond, ◌&&◌, List, [], ◌∷◌, eqb}
use Rattle.std.proofs.Common.{sym, ap, ◌∙◌, arith, eqb-true, ne_eqb}
use Rattle.std.proofs.Math.Option.{some, some-injective}
use Rattle.std.proofs.Math.ListN.{get_elem?}
use Rattle.model.specs.Words.{All, is_none}
use Rattle.model.specs.Total.{total}
use Rattle.model.specs.QueueTable.{Table}
use Rattle.model.specs.Orders.{Hop, Flow}
use Rattle.model.specs.Aggregates.{link_at, fixed_delay_of}
use Rattle.model.specs.Schedulable.{FlowMeets, Schedulable}
use Rattle.model.specs.Reference.{hop_delay, path_delay}
use Rattle.model.specs.Run.{Frame, Run, Conforming, hop_of, window, in_queue}
use Rattle.model.specs.Delivery.{delivered, InTime, alike, any_birth, of_flow, at_hop, on_cable, frames_at, along_path, delivered_up_to, Conserved, NoneLost, Arrives}
use Rattle.model.proofs.Laws.All.{all_append, all-at, all-imp, filter-all}
use Rattle.model.proofs.Laws.Total.{total-zero}
use Rattle.model.proofs.Laws.Test.{cond_same}
use Rattle.model.proofs.Laws.Run.Windows.{window-at, window-has}
use Rattle.model.proofs.Laws.Run.Cables.{since-all}
use Rattle.model.proofs.Laws.Run.InQueue.{queue-each}
use Rattle.model.proofs.Laws.Run.Standing.{moved, Stands, stands, stands-cable}
use Rattle.model.proofs.Laws.Run.Jitter.{sum_before, OnTime, Placed, meets, leaves, placed, moves}
use Rattle.model.proofs.Laws.Run.NotLate.{earlier, queue-placed}
use Rattle.model.proofs.Laws.Run.NoLoss.{conserved}

delay-most : (t : Table) (path : List Hop) (i : ℕ) → sum_before (hop_delay t) path i ≤ path_delay t path
unfolding sum_before path_delay total
delay-most t path zero = omega arith
delay-most t [] (suc i) = omega arith
delay-most t (h ∷ path) (suc i) = omega (arith, delay-most t path i)

-- A frame of the flow with another birth is not counted.
other-birth : (born length j : ℕ) (f : Frame) → (f.flow ≡ j → f.born ≡ born → ⊥) → of_flow (alike born length) j f ≡ 0
unfolding of_flow alike
other-birth born length j f d = go (eqb f.flow j) refl
  where
    go : (b : Bool) → eqb f.flow j ≡ b → ◌≡◌ {A = ℕ} (cond b (cond (eqb f.born born && eqb f.length length) 1 0) 0) 0
    go true e = ap {B = ℕ} (λ b. cond (b && eqb f.length length) 1 0) (ne_eqb f.born born (d (eqb-true f.flow j e)))
    go false e = refl

-- Hops without weight.
none-along : {t : Table} {fs : List Flow} (r : Run t fs) (w : ℕ → ℕ → ℕ) (j x : ℕ) → ((h : Hop) → All (λ f. of_flow w j f ≡ 0) (frames_at r x h))
    → (i : ℕ) (path : List Hop) → along_path r w j x i path ≡ 0
unfolding along_path at_hop
none-along r w j x z i [] = refl
none-along r w j x z i (h ∷ path) =
    omega (
      arith,
      total-zero (at_hop w j i) (frames_at r x h)
          (all-imp (frames_at r x h) (λ f e. ap (λ v. cond (eqb f.hop i) v 0) e ∙ cond_same (eqb f.hop i) 0) (z h)),
      none-along r w j x z (suc i) path,
    )

module _ (t : Table) (fs : List Flow) (sch : Schedulable t fs) (r : Run t fs) where
  pub in-time : Conforming fs r.sent → (x : ℕ) → All (InTime t fs x) (delivered r x)
  unfolding delivered
  in-time conforming x =
      all-imp (delivered r x)
      (λ f p.
      let o = p.0.0 in
      let e = delay-most t o.flow.path f.hop in
      record {
        flow = o.flow;
        known = o.known;
        path = omega (arith, o.in_time, p.0.1, e);
        deadline = omega (arith, o.in_time, p.0.1, e, (meets t fs sch r f o).deadline);
      })
      (filter-all (λ f. OnTime t fs f × (f.since ≡ x)) (λ f. is_none (hop_of fs f)) (moved r x) (moves t fs sch r x (earlier t fs sch r conforming x)))

  -- By any weight.
  flow-conserved : (x j : ℕ) (flow : Flow) → get_elem? fs j ≡ some flow → (w : ℕ → ℕ → ℕ) → Conserved r x j flow w
  flow-conserved x j flow e w = conserved t fs r w j flow e x (all-at (FlowMeets t fs) fs j flow sch.flows e).queues

  pub none-lost : (x : ℕ) → NoneLost r x
  none-lost x =
      record {
        frames = λ j flow e born length. flow-conserved x j flow e (alike born length);
        bytes = λ j flow e. flow-conserved x j flow e any_birth;
        in_place = λ h. queue-each (Stands t fs r h.link) h.level (r.after x h.link) (stands t fs r x h.link);
        on_link = stands-cable t fs r x;
      }

  module _ (conforming : Conforming fs r.sent) (j : ℕ) (flow : Flow) (known : get_elem? fs j ≡ some flow) where
    -- A frame that is in a queue or leaves it will be behind the cable within the sum of its path's thresholds and fixed delays.
    young : (y n level : ℕ) (f : Frame) → Placed t fs y n level f → f.flow ≡ j → y + fixed_delay_of (link_at t n) ≤ f.born + path_delay t flow.path
    young y n level f p e =
        let o = p.on_time in
        let same : o.flow ≡ flow = some-injective o.flow flow (sym o.known ∙ ap (get_elem? fs) e ∙ known) in
        omega (arith, leaves t fs sch r y n level f p, delay-most t o.flow.path (suc f.hop), ap (λ z. path_delay t z.path) same)

    module _ (born x length : ℕ) (late : born + path_delay t flow.path ≤ x) where
      gone : (y n level : ℕ) (f : Frame) → x < y + fixed_delay_of (link_at t n) → Placed t fs y n level f → of_flow (alike born length) j f ≡ 0
      gone y n level f u p = other-birth born length j f (λ e b. omega (arith, young y n level f p e, late, u, b))

      none-at : (h : Hop) → All (λ f. of_flow (alike born length) j f ≡ 0) (frames_at r x h)
      unfolding frames_at on_cable
      none-at h =
          let n : ℕ = h.link in
          let Gone : Frame → Type 0 = λ f. of_flow (alike born length) j f ≡ 0 in
          all_append Gone (in_queue h.level (r.after x n)) (on_cable r x n)
          (all-imp (in_queue h.level (r.after x n)) (λ f p. gone (suc x) n h.level f (omega arith) p) (queue-placed t fs sch r conforming x n h.level))
          (since-all Gone r.before n x (fixed_delay_of (link_at t n))
          (λ y u v. all-imp (r.before y n).left (λ f p. gone y n p.0 f v p.1) (placed t fs sch r y (earlier t fs sch r conforming y) n).left))

      sent-then : window (λ y. total (of_flow (alike born length) j) (r.sent y)) 0 (suc x) ≡ total (of_flow (alike born length) j) (r.sent born)
      sent-then =
          omega (
            arith,
            window-at sent born 0 (suc x)
                (λ y d.
                total-zero (of_flow (alike born length) j) (r.sent y)
                (all-imp (r.sent y) (λ f s. other-birth born length j f (λ e b. d (sym s.born ∙ b))) (r.sends y))),
            window-has sent born 0 (suc x) (omega arith) (omega (arith, late)),
          )
        where
          sent : ℕ → ℕ
          sent y = total (of_flow (alike born length) j) (r.sent y)

      all-delivered : total (of_flow (alike born length) j) (r.sent born) ≡ delivered_up_to r (alike born length) j x
      all-delivered =
          omega (
            arith,
            sent-then,
            flow-conserved x j flow known (alike born length),
            none-along r (alike born length) j x none-at 0 flow.path,
          )

    pub arrives : Arrives r j flow
    arrives =
        record {
          path = λ born x late length. all-delivered born x length late;
          deadline = λ born x late length. all-delivered born x length (omega (arith, late, (all-at (FlowMeets t fs) fs j flow sch.flows known).deadline));
        }
