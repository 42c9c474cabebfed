-- Figures stored in the array are read back, and those of the other queues stay as they were.
-- Assumes nothing.
use Prim.Native.Nat.{ℕ, zero, suc, ◌+◌, ◌-◌, ◌*◌, ◌/◌, ◌%◌, ◌^◌, ◌≤◌, ◌<◌, max}
use mathlib.Core.Path.{◌≡◌, refl, sym, ap, ◌∙◌}
use mathlib.Core.List.{List, [], ◌∷◌}
use native.Mathlib.Nat.{add-zero}
use native.Mathlib.Omega.{arith}
use lib.ListN.{length, get_or, set, length-set}
use lib.Seq.{get_or-set_same, get_or-set_other, set-get_or, ext_get_or}
use Rattle.model.specs.Sizes.{queues_most}
use Rattle.model.specs.Formula.{Aggregate}
use Rattle.model.proofs.Laws.Formula.{AtMost}
use Rattle.model.specs.QueueTable.{Table}
use Rattle.model.specs.Orders.{Flow}
use Rattle.model.specs.WithFlow.{together}
use Rattle.figures.specs.View.{own_numbers, burst_position, frame_position, figure_at, replaced, Below, LimitedShare, figure_stored, Figures}

set_below : (bound : ℕ) (l : List ℕ) (i v : ℕ) → Below bound l → v ≤ bound → Below bound (set l i v)
set_below bound [] i v b h k = b k
set_below bound (x ∷ l) zero v b h zero = h
set_below bound (x ∷ l) zero v b h (suc k) = b (suc k)
set_below bound (x ∷ l) (suc i) v b h zero = b 0
set_below bound (x ∷ l) (suc i) v b h (suc k) = set_below bound l i v (λ j. b (suc j)) h k

module _ (figures : List ℕ) (e : ℕ) (a : Aggregate) where
  abbrev one : List ℕ
  one = set figures (own_numbers * e) a.rate

  abbrev two : List ℕ
  two = set one (burst_position e) a.burst

  pub stored-length : length (figure_stored figures e a) ≡ length figures
  unfolding figure_stored
  stored-length = length-set two (frame_position e) a.frame ∙ length-set one (burst_position e) a.burst ∙ length-set figures (own_numbers * e) a.rate

  pub stored_other : (d : ℕ) → (d ≡ e → ⊥) → figure_at (figure_stored figures e a) d ≡ figure_at figures d
  unfolding figure_at figure_stored
  stored_other d ne =
      λ i. record { rate = (rw (add-zero (own_numbers * d)) at (other 0 (omega arith))) i; burst = other 1 (omega arith) i; frame = other 2 (omega arith) i }
    where
      other : (j : ℕ) → j < own_numbers → get_or (set two (frame_position e) a.frame) (own_numbers * d + j) 0 ≡ get_or figures (own_numbers * d + j) 0
      other j lt =
          get_or-set_other two (frame_position e) (own_numbers * d + j) a.frame 0 (omega arith)
          ∙ get_or-set_other one (burst_position e) (own_numbers * d + j) a.burst 0 (omega arith)
          ∙ get_or-set_other figures (own_numbers * e) (own_numbers * d + j) a.rate 0 (omega arith)

  pub stored_here : own_numbers * e + own_numbers ≤ length figures → figure_at (figure_stored figures e a) e ≡ a
  unfolding figure_at figure_stored
  stored_here within =
      let long : length two ≡ length figures = length-set one (burst_position e) a.burst ∙ length-set figures (own_numbers * e) a.rate in
      λ i.
      record {
        rate =
            (get_or-set_other two (frame_position e) (own_numbers * e) a.frame 0 (omega arith)
            ∙ get_or-set_other one (burst_position e) (own_numbers * e) a.burst 0 (omega arith)
            ∙ get_or-set_same figures (own_numbers * e) a.rate 0 (omega arith))
            i;
        burst =
            (get_or-set_other two (frame_position e) (burst_position e) a.frame 0 (omega arith)
            ∙ get_or-set_same one (burst_position e) a.burst 0 (omega (arith, length-set figures (own_numbers * e) a.rate)))
            i;
        frame = get_or-set_same two (frame_position e) a.frame 0 (omega (arith, long)) i;
      }

  stored-below : (bound : ℕ) → Below bound figures → a.rate ≤ bound → a.burst ≤ bound → a.frame ≤ bound → Below bound (figure_stored figures e a)
  unfolding figure_stored
  stored-below bound b r s f =
      set_below bound two (frame_position e) a.frame (set_below bound one (burst_position e) a.burst (set_below bound figures (own_numbers * e) a.rate b r) s) f

-- No aggregate is more than itself.
pub at_most : (a : Aggregate) → AtMost a a
at_most a = record { rate = omega arith; burst = omega arith; frame = omega arith }

-- No number grows by more than a share where the figures of a queue don't.
pub stored_more : (figures : List ℕ) (e : ℕ) {share a : Aggregate} → LimitedShare share → AtMost a (together (figure_at figures e) share)
    → (bound : ℕ) → Below bound figures → Below (bound + 2 ^ 31) (figure_stored figures e a)
unfolding figure_at together
stored_more figures e {a = a} small most bound b =
    stored-below figures e a (bound + 2 ^ 31) (λ j. omega (arith, b j)) (omega (arith, small.0, most.rate, b (own_numbers * e))) (omega (arith, small.1, most.burst, b (burst_position e)))
    (omega (arith, small.2, most.frame, b (frame_position e)))

-- A share with the largest frame of another.
abbrev pub kept_frame : (was share : Aggregate) → Aggregate
kept_frame was share = record { rate = share.rate; burst = share.burst; frame = was.frame }

pub kept_same : (was share : Aggregate) → was.frame ≡ share.frame → kept_frame was share ≡ share
kept_same was share same = λ i. record { rate = share.rate; burst = share.burst; frame = same i }

-- A flow counted by another share beside the figures `rest` and `a`.
pub replaced-own : (rest a was share : Aggregate) → replaced (together rest (together a was)) was share ≡ together rest (together a (kept_frame was share))
unfolding replaced together
replaced-own rest a was share = λ i. record { rate = rate i; burst = burst i; frame = max rest.frame (max a.frame was.frame) }
  where
    rate : rest.rate + (a.rate + was.rate) - was.rate + share.rate ≡ rest.rate + (a.rate + share.rate)
    rate = omega arith

    burst : rest.burst + (a.burst + was.burst) - was.burst + share.burst ≡ rest.burst + (a.burst + share.burst)
    burst = omega arith

-- It is no more than if it were counted in twice.
pub replaced-most : (own was share : Aggregate) → AtMost (replaced own was share) (together own share)
unfolding replaced together
replaced-most own was share = record { rate = omega arith; burst = omega arith; frame = omega arith }

-- The stores that count a flow in, each worked out from what the ones before it left.
pub flow-stored : (figures : List ℕ) (e : ℕ) (share : Aggregate) {largest : ℕ} →
    let one : List ℕ = set figures (own_numbers * e) (get_or figures (own_numbers * e) 0 + share.rate) in
    let two : List ℕ = set one (burst_position e) (get_or one (burst_position e) 0 + share.burst) in
    largest ≡ max (get_or two (frame_position e) 0) share.frame
    → set two (frame_position e) largest ≡ figure_stored figures e (together (figure_at figures e) share)
unfolding figure_stored figure_at together
flow-stored figures e share most =
    let rate : ℕ = get_or figures (own_numbers * e) 0 + share.rate in
    let burst : ℕ = get_or figures (burst_position e) 0 + share.burst in
    let burst_is = get_or-set_other figures (own_numbers * e) (burst_position e) rate 0 (omega arith) in
    let frame_is = get_or-set_other (set figures (own_numbers * e) rate) (burst_position e) (frame_position e) burst 0 (omega arith)
    ∙ get_or-set_other figures (own_numbers * e) (frame_position e) rate 0 (omega arith) in
    rw most (rw burst_is (rw frame_is refl))

-- The stores at a queue, one after the other.
module _ (figures : List ℕ) (e rate burst : ℕ) where
  abbrev sums_stored : List ℕ
  sums_stored = set (set figures (own_numbers * e) rate) (burst_position e) burst

  pub frame-stored : (frame : ℕ) → set sums_stored (frame_position e) frame ≡ figure_stored figures e (record { rate = rate; burst = burst; frame = frame })
  unfolding figure_stored
  frame-stored frame = refl

  -- The largest frame isn't stored where it stays as it was.
  pub frame-kept : sums_stored ≡ figure_stored figures e (record { rate = rate; burst = burst; frame = get_or figures (frame_position e) 0 })
  frame-kept =
      let same : get_or sums_stored (frame_position e) 0 ≡ get_or figures (frame_position e) 0
      = get_or-set_other (set figures (own_numbers * e) rate) (burst_position e) (frame_position e) burst 0 (omega arith)
      ∙ get_or-set_other figures (own_numbers * e) (frame_position e) rate 0 (omega arith) in
      sym (set-get_or sums_stored (frame_position e) 0) ∙ ap (set sums_stored (frame_position e)) same ∙ frame-stored (get_or figures (frame_position e) 0)

-- Two arrays with the figures of the same flows are equal.
module _ {t : Table} {fs : List Flow} {a b : List ℕ} (fa : Figures t fs a) (fb : Figures t fs b) where
  figure-same : (e : ℕ) → e < queues_most → figure_at a e ≡ figure_at b e
  figure-same e lt = fa.same e lt ∙ sym (fb.same e lt)

  place_same : (e k : ℕ) → e < queues_most → k < own_numbers → get_or a (own_numbers * e + k) 0 ≡ get_or b (own_numbers * e + k) 0
  unfolding figure_at
  place_same e zero lt h = rw (add-zero (own_numbers * e)) (ap (λ (x : Aggregate). x.rate) (figure-same e lt))
  place_same e (suc zero) lt h = ap (λ (x : Aggregate). x.burst) (figure-same e lt)
  place_same e (suc (suc zero)) lt h = ap (λ (x : Aggregate). x.frame) (figure-same e lt)
  place_same e (suc (suc (suc k))) lt h = absurd (omega arith)

  pub figures-unique : a ≡ b
  figures-unique =
      ext_get_or 0 a b (fa.long ∙ sym fb.long)
      (λ j lt.
      let split : j ≡ own_numbers * (j / own_numbers) + j % own_numbers = omega arith in
      rw split (place_same (j / own_numbers) (j % own_numbers) (omega (arith, fa.long)) (omega arith)))
