-- No frame is lost: what the source of a flow has sent is in the queues of its path, on the cables behind them, or has been delivered, in every run, whatever the sources send.
-- At each hop what has come is still there, on the cable or has gone on to the next; summed along the path. Assumes nothing.
use Prim.Native.Nat.{ℕ, zero, suc, ◌+◌, ◌≤◌}
use Rattle.std.specs.Prelude.{◌≡◌, Bool}
use Rattle.std.proofs.Math.Path.{refl, sym, ap}
use Rattle.std.proofs.Common.{subst, ◌∙◌, eqb-true, eq-eqb, ne_eqb}
use Rattle.std.proofs.Math.Bool.{true, false, cond}
use mathlib.Core.List.{List, [], ◌∷◌}
use Rattle.std.proofs.Math.Option.{Option, none, some}
use Rattle.std.proofs.Math.Nat.{le_trans}
use native.Mathlib.Omega.{arith}
use Rattle.std.proofs.Math.ListN.{length, get_elem?}
use Rattle.std.proofs.Math.Dec.{eqb}
use Rattle.model.specs.Words.{All, is_none, nth}
use Rattle.model.specs.Total.{total}
use Rattle.model.specs.QueueTable.{Queue, Table}
use Rattle.model.specs.Orders.{Hop, Flow}
use Rattle.model.specs.Aggregates.{link_at, queue_at}
use Rattle.model.specs.Schedulable.{Named}
use Rattle.model.specs.Run.{Frame, LinkState, Run, hop_of, next, empty_levels, empty_link, window, in_queue}
use Rattle.model.specs.Delivery.{delivered, of_flow, at_hop, on_cable, frames_at, along_path, delivered_up_to, Conserved}
use Rattle.model.proofs.Laws.All.{all-imp}
use Rattle.model.proofs.Laws.Total.{total-append, total-filter, total-each, total-below, total-same, total-cond}
use Rattle.model.proofs.Laws.Test.{cond-le, cond_same, and-then}
use Rattle.model.proofs.Laws.List.{index_below, number-within, none-past}
use Rattle.model.proofs.Laws.Run.Windows.{window-ext, window-at, window-has}
use Rattle.model.proofs.Laws.Run.OneLink.{held, held-each, held-le}
use Rattle.model.proofs.Laws.Run.InQueue.{queue-weight}
use Rattle.model.proofs.Laws.Run.Standing.{hop, moved, known-hop, moved_all, Stands, stands-before, stands, stands-cable, level-count}
use Rattle.model.proofs.Laws.Run.Conservation.{brings, there, levels, reached, coming, coming-most, out, on_link, inside, so_far, source, reach-next, reach-first}

-- A queue of the table lies within its links, and within the levels of its link.
record Within (t : Table) (h : Hop) : Type 0 where
  link-low : 1 ≤ h.link
  link-high : h.link ≤ length t
  level-low : 1 ≤ h.level
  level-high : h.level ≤ length (empty_link (link_at t h.link)).levels

empty-count : (qs : List Queue) → length (empty_levels qs) ≡ length qs
unfolding empty_levels
empty-count [] = refl
empty-count (q ∷ qs) = ap suc (empty-count qs)

within : (t : Table) (h : Hop) → Named t h → Within t h
unfolding queue_at link_at empty_link
within t h q =
    let (k, is_link, is_queue) = and-then (link_at t h.link) (λ l. nth l.levels h.level) q.found in
    let (a, b) = number-within t h.link k is_link in
    let (c, d) = number-within k.levels h.level q.queue is_queue in
    record {
      link-low = a;
      link-high = b;
      level-low = c;
      level-high = omega (arith, empty-count k.levels, ap (λ o. length (empty_link o).levels) is_link);
    }

cond-add : (b : Bool) (v w : ℕ) → cond b v 0 + cond b w 0 ≡ cond b (v + w) 0
cond-add true v w = refl
cond-add false v w = refl

level-weight : (m : Frame → ℕ) (p : ℕ) → 1 ≤ p → (l : LinkState) → total m (in_queue p l) ≡ held (λ n f. cond (eqb n p) (m f) 0) l
level-weight m zero u l = absurd (omega arith)
level-weight m (suc q) u l = queue-weight m q l

module _ (t : Table) (fs : List Flow) (r : Run t fs) (w : ℕ → ℕ → ℕ) (j : ℕ) (fl : Flow) (known : get_elem? fs j ≡ some fl) where
  own-hop : (f : Frame) → eqb f.flow j ≡ true → hop_of fs f ≡ get_elem? fl.path f.hop
  own-hop f e = known-hop fs f fl (ap (get_elem? fs) (eqb-true f.flow j e) ∙ known)

  -- A hop of the flow's path.
  module _ (i : ℕ) (h : Hop) (on : get_elem? fl.path i ≡ some h) (queue : Named t h) where
    abbrev m : Frame → ℕ
    m = at_hop w j i

    -- A frame with a weight is on its way to this hop.
    weighed : (f : Frame) (k : Option Hop → ℕ) → (m f ≤ k (some h)) → m f ≤ k (hop_of fs f)
    unfolding at_hop of_flow
    weighed f k u = go (eqb f.hop i) refl (eqb f.flow j) refl u
      where
        go : (b : Bool) → eqb f.hop i ≡ b → (c : Bool) → eqb f.flow j ≡ c → cond b (cond c (w f.born f.length) 0) 0 ≤ k (some h)
            → cond b (cond c (w f.born f.length) 0) 0 ≤ k (hop_of fs f)
        go false e c d u = omega arith
        go true e false d u = omega arith
        go true e true d u =
            omega (arith, u, ap k (own-hop f d ∙ ap (get_elem? fl.path) (eqb-true f.hop i e) ∙ on))

    all_come : (x : ℕ) → coming t fs r m x ≡ reached t fs r m x
    unfolding coming reached
    all_come x =
        let q = within t h queue in
        omega (
          arith,
          coming-most t fs r m x,
          total-below m (λ f. brings (m f) (hop_of fs f) (levels t fs r x) (length t)) (moved r x)
              (λ f.
              weighed f (λ o. brings (m f) o (levels t fs r x) (length t))
              (there (m f) h (levels t fs r x) (length t) q.link-low q.link-high q.level-low
              (omega (arith, q.level-high, level-count t fs r x h.link)))),
        )

    -- Only this queue holds frames with a weight.
    to-here : (n k : ℕ) (f : Frame) → Stands t fs r n k f → m f ≤ cond (eqb k h.level) (cond (eqb n h.link) (m f) 0) 0
    to-here n k f e = subst (λ o. m f ≤ weight o) e (weighed f weight (rw (eq-eqb h.level h.level refl, eq-eqb h.link h.link refl) (omega arith)))
      where
        weight : Option Hop → ℕ
        weight none = 0
        weight (some g) = cond (eqb g.level h.level) (cond (eqb g.link h.link) (m f) 0) 0

    here : ℕ → Frame → ℕ
    here n f = cond (eqb n h.link) (m f) 0

    in-queue : (x n : ℕ) → held (λ k. m) (r.after x n) ≡ cond (eqb n h.link) (total m (in_queue h.level (r.after x n))) 0
    unfolding here
    in-queue x n =
        let each = stands t fs r x n in
        omega (
          arith,
          held-each (Stands t fs r n) (λ k. m) (λ k f. cond (eqb k h.level) (here n f) 0) (to-here n) (r.after x n) each.wire each.levels,
          held-le (λ k f. cond (eqb k h.level) (here n f) 0) (λ k. m)
              (λ k f. le_trans (cond-le (eqb k h.level) (here n f)) (cond-le (eqb n h.link) (m f)))
              (r.after x n),
          level-weight (here n) h.level (within t h queue).level-low (r.after x n),
          total-cond (eqb n h.link) m (in_queue h.level (r.after x n)),
        )

    on-cable : (x n : ℕ) → total m (on_cable r x n) ≡ cond (eqb n h.link) (total m (on_cable r x n)) 0
    unfolding here
    on-cable x n =
        omega (
          arith,
          total-each (λ f. (k : ℕ) × Stands t fs r n k f) m (here n) (on_cable r x n)
              (λ f e. le_trans (to-here n e.0 f e.1) (cond-le (eqb e.0 h.level) (here n f)))
              (stands-cable t fs r x n),
          total-below (here n) m (on_cable r x n) (λ f. cond-le (eqb n h.link) (m f)),
          total-cond (eqb n h.link) m (on_cable r x n),
        )

    -- What of it is inside is at this hop.
    all_here : (x : ℕ) → inside t fs r m x ≡ total m (frames_at r x h)
    unfolding inside frames_at
    all_here x =
        let q = within t h queue in
        omega (
          arith,
          window-ext (on_link t fs r m x) at 1 (length t) (λ n. omega (arith, in-queue x n, on-cable x n, cond-add (eqb n h.link) (queued n) (cabled n))),
          window-at at h.link 1 (length t) (λ n d. ap (λ b. cond b (queued n + cabled n) 0) (ne_eqb n h.link d)),
          window-has at h.link 1 (length t) q.link-low (omega (arith, q.link-high)),
          ap (λ b. cond b (queued h.link + cabled h.link) 0) (eq-eqb h.link h.link refl),
          total-append m (in_queue h.level (r.after x h.link)) (on_cable r x h.link),
        )
      where
        queued : ℕ → ℕ
        queued n = total m (in_queue h.level (r.after x n))

        cabled : ℕ → ℕ
        cabled n = total m (on_cable r x n)

        at : ℕ → ℕ
        at n = cond (eqb n h.link) (queued n + cabled n) 0

    -- What has come to the hop is there, or has gone on.
    gone-on : (x : ℕ) → window (reached t fs r m) 0 (suc x) ≡ total m (frames_at r x h) + window (reached t fs r (at_hop w j (suc i))) 0 (suc x)
    gone-on x =
        omega (
          arith,
          so_far t fs r m x,
          all_here x,
          window-ext (coming t fs r m) (reached t fs r m) 0 (suc x) all_come,
          window-ext (reached t fs r (at_hop w j (suc i))) (out t fs r m) 0 (suc x) (reach-next t fs r w j i),
        )

  -- No frame of the flow goes further than past its last hop.
  abbrev Short : Frame → Type 0
  Short f = eqb f.flow j ≡ true → f.hop ≤ length fl.path

  all_short : (x : ℕ) → All Short (moved r x)
  unfolding next
  all_short x =
      moved_all t fs r Short x
      (λ n y d.
      all-imp (r.before y n).left (λ f p e. index_below fl.path f.hop (hop n p.0) (sym (own-hop f e) ∙ p.1))
      (stands-before t fs r y n).left)
      (all-imp (r.sent x) (λ f s e. omega (arith, s.first)) (r.sends x))

  ends : (f : Frame) → Short f → cond (is_none (hop_of fs f)) (of_flow w j f) 0 ≡ at_hop w j (length fl.path) f
  unfolding at_hop of_flow
  ends f s = go (eqb f.flow j) refl
    where
      go : (b : Bool) → eqb f.flow j ≡ b → cond (is_none (hop_of fs f)) (cond b (w f.born f.length) 0) 0
          ≡ cond (eqb f.hop (length fl.path)) (cond b (w f.born f.length) 0) 0
      go true e =
          ap (λ b. cond b (w f.born f.length) 0) (ap is_none (own-hop f e) ∙ none-past fl.path f.hop (s e))
      go false e = cond_same (is_none (hop_of fs f)) 0 ∙ sym (cond_same (eqb f.hop (length fl.path)) 0)

  at-end : (x : ℕ) → total (of_flow w j) (delivered r x) ≡ reached t fs r (at_hop w j (length fl.path)) x
  unfolding delivered reached
  at-end x =
      total-filter (of_flow w j) (λ f. is_none (hop_of fs f)) (moved r x)
      ∙ total-same Short (λ f. cond (is_none (hop_of fs f)) (of_flow w j f) 0) (at_hop w j (length fl.path)) (moved r x) ends (all_short x)

  -- From hop `i` on, where the hops `rest` are left.
  from-hop : (x i : ℕ) (rest : List Hop) → ((k : ℕ) → get_elem? fl.path (i + k) ≡ get_elem? rest k) → i + length rest ≡ length fl.path
      → All (Named t) rest
      → window (reached t fs r (at_hop w j i)) 0 (suc x)
      ≡ along_path r w j x i rest + delivered_up_to r w j x
  unfolding along_path delivered_up_to
  from-hop x i [] e n a =
      let last : i ≡ length fl.path = omega (arith, n) in
      omega (
        arith,
        ap (λ z. window (reached t fs r (at_hop w j z)) 0 (suc x)) last,
        window-ext (λ y. total (of_flow w j) (delivered r y)) (reached t fs r (at_hop w j (length fl.path))) 0 (suc x) at-end,
      )
  from-hop x i (h ∷ rest) e n a =
      omega (
        arith,
        gone-on i h (ap (get_elem? fl.path) (omega arith) ∙ e 0) a.0 x,
        from-hop x (suc i) rest (λ k. ap (get_elem? fl.path) (omega arith) ∙ e (suc k)) (omega (arith, n)) a.1,
      )

  pub conserved : (x : ℕ) → All (Named t) fl.path → Conserved r x j fl w
  unfolding source
  conserved x a =
      omega (
        arith,
        window-ext (reached t fs r (at_hop w j 0)) (source t fs r w j) 0 (suc x) (reach-first t fs r w j),
        from-hop x 0 fl.path (λ k. ap (get_elem? fl.path) (omega arith)) (omega arith) a,
      )
