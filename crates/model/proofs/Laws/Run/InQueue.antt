-- The frames in one queue of a link: their weight is what the link holds of that level, and what holds of each frame of the link holds of them.
-- Induction over the levels. Assumes nothing.
use Prim.Native.Nat.{ℕ, zero, suc, ◌+◌, ◌≤◌, ◌<◌}
use Rattle.std.specs.Prelude.{◌≡◌, Bool, leb}
use Rattle.std.proofs.Math.Path.{refl, ap, subst}
use Rattle.std.proofs.Common.{◌∙◌, arith}
use Rattle.std.proofs.Math.Bool.{true, false, cond}
use Rattle.std.proofs.lemmas.Bool.{false≢true}
use mathlib.Core.List.{List, [], ◌∷◌}
use Rattle.std.proofs.Math.ListN.{get_elem?}
use Rattle.std.proofs.Math.Dec.{eqb}
use borrow.Author.Tests.{eqb-true, eqb-false, eq-eqb, ne_eqb, leb-false}
use Rattle.model.specs.Words.{All, nth}
use Rattle.model.specs.Total.{total}
use Rattle.model.specs.Run.{Frame, Wire, idle, sending, sending_best_effort, LinkState, on_wire, or_empty, in_queue}
use Rattle.model.proofs.Laws.All.{all_append, append-all}
use Rattle.model.proofs.Laws.Total.{total-append, total-cond}
use Rattle.model.proofs.Laws.Run.OneLink.{waiting, under_way, held, EachLevel, OnWire, Each, waiting-zero}

module _ (m : Frame → ℕ) (p : ℕ) where
  abbrev at_level : ℕ → Frame → ℕ
  at_level n f = cond (eqb n p) (m f) 0

  not-here : (n : ℕ) (q : List Frame) → (n ≡ p → ⊥) → total (at_level n) q ≡ 0
  not-here n q d = total-cond (eqb n p) m q ∙ ap (λ b. cond b (total m q) 0) (ne_eqb n p d)

  here : (n : ℕ) (q : List Frame) → n ≡ p → total (at_level n) q ≡ total m q
  here n q e = total-cond (eqb n p) m q ∙ ap (λ b. cond b (total m q) 0) (eq-eqb n p e)

  past : (n : ℕ) (qs : List (List Frame)) → p < n → waiting at_level n qs ≡ 0
  past n qs h = waiting-zero at_level n qs (λ k f u. ap (λ b. cond b (m f) 0) (ne_eqb k p (λ e. omega (arith, e))))

  level-waiting : (n i : ℕ) (qs : List (List Frame)) → n + i ≡ p → total m (or_empty (get_elem? qs i)) ≡ waiting at_level n qs
  unfolding waiting total
  level-waiting n i [] e = refl
  level-waiting n zero (q ∷ qs) e = omega (arith, here n q (omega arith), past (suc n) qs (omega arith))
  level-waiting n (suc i) (q ∷ qs) e = omega (arith, not-here n q (λ k. omega (arith, k)), level-waiting (suc n) i qs (omega arith))

  wire-weight : (w : Wire) → total m (on_wire p w) ≡ under_way at_level w
  unfolding on_wire under_way total
  wire-weight idle = refl
  wire-weight (sending n f more) = go (eqb p n) refl
    where
      go : (b : Bool) → eqb p n ≡ b → total m (cond b (f ∷ []) []) ≡ at_level n f
      go true e = omega (arith, ap (λ b. cond b (m f) 0) (eq-eqb n p (omega (arith, eqb-true p n e))))
      go false e =
          let d = eqb-false p n e in
          omega (arith, ap (λ b. cond b (m f) 0) (ne_eqb n p (λ k. omega (arith, k, d))))
  wire-weight (sending_best_effort more) = refl

pub queue-weight : (m : Frame → ℕ) (q : ℕ) (l : LinkState) → total m (in_queue (suc q) l) ≡ held (λ n f. cond (eqb n (suc q)) (m f) 0) l
unfolding in_queue held nth
queue-weight m q l =
    omega (
      arith,
      total-append m (on_wire (suc q) l.wire) (or_empty (get_elem? l.levels q)),
      wire-weight m (suc q) l.wire,
      level-waiting m (suc q) 1 q l.levels (omega arith),
    )

module _ (P : ℕ → Frame → Type 0) where
  level-each : (n i : ℕ) (qs : List (List Frame)) → EachLevel P n qs → All (P (n + i)) (or_empty (get_elem? qs i))
  level-each n i [] h = tt
  level-each n zero (q ∷ qs) h = subst (λ k. All (P k) q) (omega arith) h.0
  level-each n (suc i) (q ∷ qs) h = subst (λ k. All (P k) (or_empty (get_elem? qs i))) (omega arith) (level-each (suc n) i qs h.1)

  wire-each : (p : ℕ) (w : Wire) → OnWire P w → All (P p) (on_wire p w)
  unfolding on_wire
  wire-each p idle h = tt
  wire-each p (sending n f more) h = go (eqb p n) refl
    where
      go : (b : Bool) → eqb p n ≡ b → All (P p) (cond b (f ∷ []) [])
      go true e = (subst (λ k. P k f) (omega (arith, eqb-true p n e)) h, tt)
      go false e = tt
  wire-each p (sending_best_effort more) h = tt

  pub queue-each : (p : ℕ) (l : LinkState) → Each P l → All (P p) (in_queue p l)
  unfolding in_queue nth
  queue-each zero l h = all_append (P 0) (on_wire 0 l.wire) [] (wire-each 0 l.wire h.wire) tt
  queue-each (suc q) l h =
      all_append (P (suc q)) (on_wire (suc q) l.wire) (or_empty (get_elem? l.levels q)) (wire-each (suc q) l.wire h.wire)
      (subst (λ k. All (P k) (or_empty (get_elem? l.levels q))) (omega arith) (level-each 1 q l.levels h.levels))

  -- The other way round: what holds of the frames of each queue.
  each_level : (n : ℕ) (qs : List (List Frame)) → ((i : ℕ) → All (P (n + i)) (or_empty (get_elem? qs i))) → EachLevel P n qs
  each_level n [] h = tt
  each_level n (q ∷ qs) h = (
    subst (λ k. All (P k) q) (omega arith) (h 0),
    each_level (suc n) qs (λ i. subst (λ k. All (P k) (or_empty (get_elem? qs i))) (omega arith) (h (suc i))),
  )

  each-wire : (w : Wire) → ((p : ℕ) → All (P p) (on_wire p w)) → OnWire P w
  unfolding on_wire
  each-wire idle h = tt
  each-wire (sending n f more) h = go (eqb n n) (eq-eqb n n refl) (h n)
    where
      go : (b : Bool) → b ≡ true → All (P n) (cond b (f ∷ []) []) → P n f
      go true e k = k.0
      go false e k = absurd (false≢true e)
  each-wire (sending_best_effort more) h = tt

  pub each-queue : (l : LinkState) → ((p : ℕ) → All (P p) (in_queue p l)) → OnWire P l.wire × EachLevel P 1 l.levels
  unfolding in_queue nth
  each-queue l h = (
    each-wire l.wire (λ p. (append-all (P p) (on_wire p l.wire) (or_empty (nth l.levels p)) (h p)).0),
    each_level 1 l.levels
        (λ i.
        subst (λ k. All (P k) (or_empty (get_elem? l.levels i))) (omega arith)
        (append-all (P (suc i)) (on_wire (suc i) l.wire) (or_empty (get_elem? l.levels i)) (h (suc i))).1),
  )

-- Frames of which none came up to instant `a` weigh nothing up to `a`, and the other way round.
pub came-later : (a : ℕ) (l : List Frame) → All (λ f. 1 ≤ f.length) l → total (λ f. cond (leb f.since a) f.length 0) l ≡ 0 → All (λ f. a < f.since) l
unfolding total
came-later a [] h z = tt
came-later a (f ∷ l) h z = (go (leb f.since a) refl, came-later a l h.1 (omega arith))
  where
    go : (b : Bool) → leb f.since a ≡ b → a < f.since
    go true e = absurd (omega (arith, h.0, ap (λ b. cond b f.length 0) e))
    go false e = leb-false f.since a e
