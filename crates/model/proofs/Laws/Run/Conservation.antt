-- The network: what has come to a hop of a flow is still there, is on the cable behind it or has come to the next one, so it is at most what the source has sent.
-- By weights that read only flow, birth and length, summed over all links: no order of arrivals matters. Assumes nothing.
use Prim.Native.Nat.{ℕ, zero, suc, ◌+◌, ◌*◌, ◌≤◌}
use Rattle.std.specs.Prelude.{◌≡◌, ◌&&◌, List, map, length, eqb}
use Rattle.std.proofs.Math.Path.{refl, ap}
use Rattle.std.proofs.Common.{◌∙◌, eq-eqb, ne_eqb}
use Rattle.std.proofs.Math.Bool.{cond, and-false}
use Rattle.std.proofs.Math.Option.{Option, none, some}
use native.Mathlib.Omega.{arith}
use Rattle.std.proofs.Math.Dec.{eqb-suc-suc, eqb-suc-zero, eqb-zero-suc}
use Rattle.model.specs.Total.{total}
use Rattle.model.specs.QueueTable.{Link, Table}
use Rattle.model.specs.Orders.{Hop, Flow}
use Rattle.model.specs.Aggregates.{link_at, speed_of, fixed_delay_of, same_hop}
use Rattle.model.specs.Run.{Frame, Sends, Run, hop_of, next, left_ago, handed_on, moving, is_at, reaching, enter, empty_link, window}
use Rattle.model.specs.Delivery.{of_flow, at_hop, on_cable}
use Rattle.model.proofs.Laws.Aggregates.{hop-same}
use Rattle.model.proofs.Laws.Total.{total_ext, total-append, total-map, total-filter, total-below, total-same, total-zeros, total-perm}
use Rattle.model.proofs.Laws.Test.{cond-le}
use Rattle.model.proofs.Laws.Run.Windows.{window-ext, window-mono, window-add, window-zero, window-at, window-has, window-total}
use Rattle.model.proofs.Laws.Run.Cables.{cable-step, cable-first, handed-total}
use Rattle.model.proofs.Laws.Run.OneLink.{held, all, empty-held, enter-held, interval-all}
use Rattle.model.proofs.Laws.Run.Standing.{hop, moved}

-- What a frame on its way to `o` brings to the queues of the links, which have so many levels.
unfoldable pub brings : (v : ℕ) (o : Option Hop) (levels : ℕ → ℕ) (links : ℕ) → ℕ
brings v o levels links = window (λ n. window (λ k. cond (is_at (hop n k) o) v 0) 1 (levels n)) 1 links

-- Each frame goes to one queue at most.
once : (v : ℕ) (o : Option Hop) (levels : ℕ → ℕ) (links : ℕ) → brings v o levels links ≤ v
unfolding brings same_hop
once v none levels links =
    omega (arith, window-zero (λ n. window (λ k. 0) 1 (levels n)) 1 links (λ n a b. window-zero (λ k. 0) 1 (levels n) (λ k a b. refl)))
once v (some h) levels links =
    omega (
      arith,
      window-at link h.link 1 links other-link,
      window-at (level h.link) h.level 1 (levels h.link) (other-level h.link),
      cond-le (same_hop (hop h.link h.level) h) v,
    )
  where
    level : ℕ → ℕ → ℕ
    level n k = cond (same_hop (hop n k) h) v 0

    link : ℕ → ℕ
    link n = window (level n) 1 (levels n)

    other-level : (n k : ℕ) → (k ≡ h.level → ⊥) → level n k ≡ 0
    other-level n k d =
        ap (λ b. cond (eqb n h.link && b) v 0) (ne_eqb k h.level d) ∙ ap (λ b. cond b v 0) (and-false (eqb n h.link))

    other-link : (n : ℕ) → (n ≡ h.link → ⊥) → link n ≡ 0
    other-link n d = window-zero (level n) 1 (levels n) (λ k a b. ap (λ b. cond (b && eqb k h.level) v 0) (ne_eqb n h.link d))

-- To one that is there it goes whole.
pub there : (v : ℕ) (h : Hop) (levels : ℕ → ℕ) (links : ℕ) → 1 ≤ h.link → h.link ≤ links → 1 ≤ h.level → h.level ≤ levels h.link →
    v ≤ brings v (some h) levels links
unfolding brings
there v h levels links a b c d =
    omega (
      arith,
      window-has (λ n. window (level n) 1 (levels n)) h.link 1 links a (omega arith),
      window-has (level h.link) h.level 1 (levels h.link) c (omega arith),
      ap (λ b. cond b v 0) (hop-same (hop h.link h.level) h refl),
    )
  where
    level : ℕ → ℕ → ℕ
    level n k = cond (same_hop (hop n k) h) v 0

module _ (m : Frame → ℕ) (fs : List Flow) where
  pub reaching-total : (q : Hop) (l : List Frame) → total m (reaching fs q l) ≡ total (λ f. cond (is_at q (hop_of fs f)) (m f) 0) l
  unfolding reaching
  reaching-total q l = total-filter m (λ f. is_at q (hop_of fs f)) l

  -- What reaches all queues, frame by frame.
  frame-by-frame : (l : List Frame) (levels : ℕ → ℕ) (links : ℕ) →
      window (λ n. window (λ k. total m (reaching fs (hop n k) l)) 1 (levels n)) 1 links ≡ total (λ f. brings (m f) (hop_of fs f) levels links) l
  unfolding brings
  frame-by-frame l levels links =
      window-ext (λ n. window (λ k. total m (reaching fs (hop n k) l)) 1 (levels n)) (λ n. total (on n) l) 1 links
      (λ n.
      window-ext (λ k. total m (reaching fs (hop n k) l)) (λ k. total (at n k) l) 1 (levels n) (λ k. reaching-total (hop n k) l)
      ∙ window-total (at n) l 1 (levels n))
      ∙ window-total on l 1 links
    where
      at : ℕ → ℕ → Frame → ℕ
      at n k f = cond (is_at (hop n k) (hop_of fs f)) (m f) 0

      on : ℕ → Frame → ℕ
      on n f = window (λ k. at n k f) 1 (levels n)

module _ (t : Table) (fs : List Flow) (r : Run t fs) where
  -- How many levels a link has at an instant.
  abbrev pub levels : (x link : ℕ) → ℕ
  levels x n = length (r.before x n).levels

  module _ (m : Frame → ℕ) where
    -- What moves at an instant, what of it reaches the queues of all links, and what all cables hand on.
    unfoldable pub reached : ℕ → ℕ
    reached x = total m (moved r x)

    unfoldable pub coming : ℕ → ℕ
    coming x = total (λ f. brings (m f) (hop_of fs f) (levels x) (length t)) (moved r x)

    unfoldable pub out : ℕ → ℕ
    out x = total m (handed_on t r.before x (length t))

    -- What is on a link after the arrivals of an instant, waiting, under way or on its cable; and on all links.
    abbrev pub on_link : (x n : ℕ) → ℕ
    on_link x n = held (λ k. m) (r.after x n) + total m (on_cable r x n)

    unfoldable pub inside : ℕ → ℕ
    inside x = window (on_link x) 1 (length t)

    pub coming-most : (x : ℕ) → coming x ≤ reached x
    unfolding coming reached
    coming-most x =
        total-below (λ f. brings (m f) (hop_of fs f) (levels x) (length t)) m (moved r x) (λ f. once (m f) (hop_of fs f) (levels x) (length t))

    abbrev new : (x n : ℕ) → ℕ
    new x n = window (λ k. total m (r.arrivals x n k)) 1 (levels x n)

    all_new : (x : ℕ) → window (new x) 1 (length t) ≡ coming x
    unfolding coming
    all_new x =
        window-ext (new x) (λ n. window (λ k. total m (reaching fs (hop n k) (moved r x))) 1 (levels x n)) 1 (length t)
        (λ n.
        window-ext (λ k. total m (r.arrivals x n k)) (λ k. total m (reaching fs (hop n k) (moved r x))) 1 (levels x n)
        (λ k. total-perm m (r.any_order x (hop n k))))
        ∙ frame-by-frame m fs (moved r x) (levels x) (length t)

    enters : (x n : ℕ) → held (λ k. m) (r.after x n) ≡ held (λ k. m) (r.before x n) + new x n
    enters x n = rw (r.enters x n) (enter-held (λ k. m) (r.arrivals x n) (r.before x n))

    serves : (x n : ℕ) → held (λ k. m) (r.before (suc x) n) + total m (r.before (suc x) n).left ≡ held (λ k. m) (r.after x n)
    unfolding all enter total
    serves x n =
        let gone : total m (r.after x n).left ≡ 0 = ap (λ l. total m l.left) (r.enters x n) in
        ap (all m) (r.serves x n) ∙ interval-all m r.grain (r.offered x n) (r.grain * speed_of (link_at t n)) (r.after x n) ∙ omega (arith, gone)

    abbrev handed : (x n : ℕ) → ℕ
    handed x n = total m (left_ago r.before n x (fixed_delay_of (link_at t n)))

    step : (x : ℕ) → inside (suc x) + out (suc x) ≡ inside x + coming (suc x)
    unfolding inside out on_cable
    step x =
        omega (
          arith,
          window-ext (λ n. on_link (suc x) n + handed (suc x) n) (λ n. on_link x n + new (suc x) n) 1 (length t)
              (λ n. omega (arith, enters (suc x) n, serves x n, cable-step m r.before n x (fixed_delay_of (link_at t n)))),
          window-add (on_link (suc x)) (handed (suc x)) 1 (length t),
          window-add (on_link x) (new (suc x)) 1 (length t),
          handed-total m t r.before (suc x) (length t),
          all_new (suc x),
        )

    empty_left : (k : Option Link) → total m (empty_link k).left ≡ 0
    unfolding empty_link total
    empty_left none = refl
    empty_left (some k) = refl

    at_first : inside 0 + out 0 ≡ coming 0
    unfolding inside out on_cable
    at_first =
        omega (
          arith,
          window-ext (λ n. on_link 0 n + handed 0 n) (new 0) 1 (length t)
              (λ n.
              omega (
                arith,
                enters 0 n,
                ap (held (λ k. m)) (r.starts n) ∙ empty-held (λ k. m) (link_at t n),
                cable-first m r.before n (fixed_delay_of (link_at t n)),
                ap (λ l. total m l.left) (r.starts n) ∙ empty_left (link_at t n),
              )),
          window-add (on_link 0) (handed 0) 1 (length t),
          handed-total m t r.before 0 (length t),
          all_new 0,
        )

    -- What has come to a queue up to instant `x` has been handed on, or is inside.
    pub so_far : (x : ℕ) → window out 0 (suc x) + inside x ≡ window coming 0 (suc x)
    unfolding window
    so_far zero =
        let e : out (0 + 0) ≡ out 0 = ap out (omega arith) in
        let d : coming (0 + 0) ≡ coming 0 = ap coming (omega arith) in
        omega (arith, at_first)
    so_far (suc x) =
        let e : out (0 + suc x) ≡ out (suc x) = ap out (omega arith) in
        let d : coming (0 + suc x) ≡ coming (suc x) = ap coming (omega arith) in
        omega (arith, so_far x, step x)

    out-most : (x : ℕ) → window out 0 x ≤ window reached 0 x
    unfolding window
    out-most zero = omega arith
    out-most (suc x) = omega (arith, so_far x, window-mono coming reached 0 (suc x) (λ y a b. coming-most y))

  module _ (w : ℕ → ℕ → ℕ) (j : ℕ) where
    -- What the source sends at an instant.
    unfoldable pub source : ℕ → ℕ
    source x = total (of_flow w j) (r.sent x)

    next-hop : (i x : ℕ) (f : Frame) → at_hop w j (suc i) (next x f) ≡ at_hop w j i f
    unfolding at_hop of_flow next
    next-hop i x f = ap (λ b. cond b (of_flow w j f) 0) (eqb-suc-suc f.hop i)

    not_first : (x : ℕ) (f : Frame) → at_hop w j 0 (next x f) ≡ 0
    unfolding at_hop of_flow next
    not_first x f = ap (λ b. cond b (of_flow w j f) 0) (eqb-suc-zero f.hop)

    sent-later : (i x : ℕ) (f : Frame) → Sends fs x f → at_hop w j (suc i) f ≡ 0
    unfolding at_hop
    sent-later i x f s = ap (λ h. cond (eqb h (suc i)) (of_flow w j f) 0) s.first ∙ ap (λ b. cond b (of_flow w j f) 0) (eqb-zero-suc i)

    sent-first : (x : ℕ) (f : Frame) → Sends fs x f → at_hop w j 0 f ≡ of_flow w j f
    unfolding at_hop
    sent-first x f s = ap (λ b. cond b (of_flow w j f) 0) (eq-eqb f.hop 0 s.first)

    -- What moves to a hop: from the links, and from the sources.
    parts : (i x : ℕ) → reached (at_hop w j i) x ≡ total (λ f. at_hop w j i (next x f)) (handed_on t r.before x (length t)) + total (at_hop w j i) (r.sent x)
    unfolding reached moving
    parts i x =
        total-append (at_hop w j i) (map (next x) (handed_on t r.before x (length t))) (r.sent x)
        ∙ ap (λ z. z + total (at_hop w j i) (r.sent x)) (total-map (next x) (at_hop w j i) (handed_on t r.before x (length t)))

    pub reach-next : (i x : ℕ) → reached (at_hop w j (suc i)) x ≡ out (at_hop w j i) x
    unfolding out
    reach-next i x =
        omega (
          arith,
          parts (suc i) x,
          total_ext (λ f. at_hop w j (suc i) (next x f)) (at_hop w j i) (handed_on t r.before x (length t)) (next-hop i x),
          total-same (Sends fs x) (at_hop w j (suc i)) (λ f. 0) (r.sent x) (sent-later i x) (r.sends x),
          total-zeros (r.sent x),
        )

    pub reach-first : (x : ℕ) → reached (at_hop w j 0) x ≡ source x
    unfolding source
    reach-first x =
        omega (
          arith,
          parts 0 x,
          total_ext (λ f. at_hop w j 0 (next x f)) (λ f. 0) (handed_on t r.before x (length t)) (not_first x),
          total-zeros (handed_on t r.before x (length t)),
          total-same (Sends fs x) (at_hop w j 0) (of_flow w j) (r.sent x) (sent-first x) (r.sends x),
        )

    pub conserved : (i x : ℕ) → window (reached (at_hop w j i)) 0 x ≤ window source 0 x
    conserved zero x = omega (arith, window-ext (reached (at_hop w j 0)) source 0 x reach-first)
    conserved (suc i) x =
        omega (
          arith,
          window-ext (reached (at_hop w j (suc i))) (out (at_hop w j i)) 0 x (reach-next i),
          out-most (at_hop w j i) x,
          conserved i x,
        )
