-- One link, one level: an interval works off as much as the link has slots, or leaves nothing of that level and the levels above.
-- A slot with such a frame there never starts another one, as the levels are served in turn and each in order of arrival, and best effort last. Assumes nothing.
use Prim.Native.Nat.{ℕ, zero, suc, ◌+◌, ◌*◌, ◌≤◌, ◌<◌}
use Rattle.std.specs.Prelude.{◌≡◌, ◌⊎◌, Bool, true, false, ltb, leb, eqb}
use Rattle.std.proofs.Math.Path.{refl, ap}
use Rattle.std.proofs.Common.{◌∙◌, inr, true≢false, mul-le-mul, ltb-false, leb-false, eqb-true, le-ltb, ne_eqb}
use Rattle.std.proofs.Math.Logic.{inl}
use Rattle.std.proofs.Math.Bool.{cond}
use mathlib.Core.List.{List, [], ◌∷◌}
use Rattle.std.proofs.Math.Option.{Option, none, some}
use native.Mathlib.Omega.{arith}
use Rattle.std.proofs.Math.Nat.{mul-le-mul_left}
use Rattle.std.proofs.lemmas.Bool.{eqb-false, lt-leb}
use Rattle.model.specs.Words.{All}
use Rattle.model.specs.Total.{total}
use Rattle.model.specs.Run.{Frame, Wire, idle, sending, sending_best_effort, LinkState, Pick, past_empty, pick, sending_time, start_best_effort, start, take, send, time_slot, interval}
use Rattle.model.proofs.Laws.All.{all-imp}
use Rattle.model.proofs.Laws.Total.{total-zero}
use Rattle.model.proofs.Laws.Test.{cond_same}
use Rattle.model.proofs.Laws.Run.OneLink.{waiting, under_way, held, EachLevel, OnWire, Each, Rising, Long, link, PickWeighs, pick-weighs, interval-keeps, slot_held, waiting-zero}
use Rattle.model.proofs.Laws.Run.EachFrame.{PickEach, pick-each, take-each, send-each, interval-each, interval-rising}

-- The slots that are still to be sent of what is under way.
unfoldable pub wire_slots : Wire → ℕ
wire_slots idle = 0
wire_slots (sending n f more) = suc more
wire_slots (sending_best_effort more) = suc more

-- A byte or more takes a slot or more.
pub some-time : (grain bytes : ℕ) → 1 ≤ grain → 1 ≤ bytes → 1 ≤ sending_time grain bytes
unfolding sending_time
some-time grain bytes h k = omega (arith, mul-le-mul h k)

-- The frames of the levels above `p`, and those of level `p` that came up to instant `a`.
unfoldable pub counts : (p a n : ℕ) → Frame → Bool
counts p a n f = cond (ltb n p) true (cond (eqb n p) (leb f.since a) false)

unfoldable pub whole : (p a n : ℕ) → Frame → ℕ
whole p a n f = cond (counts p a n f) f.length 0

-- The slots to be sent before a frame of level `p` that came at `a` can have left: all of what is under way, and those that count.
unfoldable pub unsent : (grain p a : ℕ) → LinkState → ℕ
unsent grain p a l = wire_slots l.wire + sending_time grain (waiting (whole p a) 1 l.levels)

counts-below : (p a n : ℕ) (f : Frame) → p < n → counts p a n f ≡ false
unfolding counts
counts-below p a n f h =
    ap (λ b. cond b true (cond (eqb n p) (leb f.since a) false)) (le-ltb n p (omega arith))
    ∙ ap (λ b. cond b (leb f.since a) false) (ne_eqb n p (λ e. omega (arith, e)))

-- What does not count is below, or of the level and came later.
counts-not : (p a n : ℕ) (f : Frame) → counts p a n f ≡ false → (p < n) ⊎ ((n ≡ p) × (a < f.since))
unfolding counts
counts-not p a n f h = go (ltb n p) refl h
  where
    at : ltb n p ≡ false → (b : Bool) → eqb n p ≡ b → cond b (leb f.since a) false ≡ false → (p < n) ⊎ ((n ≡ p) × (a < f.since))
    at u true e k = inr (eqb-true n p e, leb-false f.since a k)
    at u false e k = inl (let d = eqb-false n p e in omega (arith, ltb-false n p u, d))

    go : (b : Bool) → ltb n p ≡ b → cond b true (cond (eqb n p) (leb f.since a) false) ≡ false → (p < n) ⊎ ((n ≡ p) × (a < f.since))
    go true u k = absurd (true≢false k)
    go false u k = at u (eqb n p) refl k

counts-later : (p a n : ℕ) (f : Frame) → p ≤ n → a < f.since → counts p a n f ≡ false
unfolding counts
counts-later p a n f h k =
    ap (λ b. cond b true (cond (eqb n p) (leb f.since a) false)) (le-ltb n p h)
    ∙ ap (λ b. cond (eqb n p) b false) (lt-leb f.since a k)
    ∙ cond_same (eqb n p) false

module _ (p a : ℕ) where
  none-counts : (n : ℕ) (q : List Frame) → All (λ f. counts p a n f ≡ false) q → total (whole p a n) q ≡ 0
  unfolding whole
  none-counts n q h = total-zero (whole p a n) q (all-imp q (λ f e. ap (λ b. cond b f.length 0) e) h)

  none_below : (n : ℕ) (qs : List (List Frame)) → p < n → waiting (whole p a) n qs ≡ 0
  unfolding whole
  none_below n qs h = waiting-zero (whole p a) n qs (λ k f u. ap (λ b. cond b f.length 0) (counts-below p a k f (omega arith)))

  -- Behind a frame that does not count, none of its level counts.
  counts_behind : (n : ℕ) (f g : Frame) → counts p a n f ≡ false → f.since ≤ g.since → counts p a n g ≡ false
  counts_behind n f g h k = go (counts-not p a n f h)
    where
      go : (p < n) ⊎ ((n ≡ p) × (a < f.since)) → counts p a n g ≡ false
      go (inl u) = counts-below p a n g u
      go (inr u) = counts-later p a n g (omega (arith, u.0)) (omega (arith, u.1))

  abbrev PickCounts : ℕ → List (List Frame) → Option Pick → Type 0
  PickCounts n qs none = Unit {0}
  PickCounts n qs (some k) = counts p a k.level k.frame ≡ false → waiting (whole p a) n qs ≡ 0

  pick-counts : (n : ℕ) (qs : List (List Frame)) → All Rising qs → PickCounts n qs (pick n qs)
  unfolding pick past_empty waiting
  pick-counts n [] r = tt
  pick-counts n ([] ∷ qs) r = go (pick (suc n) qs) (pick-counts (suc n) qs r.1)
    where
      go : (o : Option Pick) → PickCounts (suc n) qs o → PickCounts n ([] ∷ qs) (past_empty o)
      go none h = tt
      go (some k) h = λ e. omega (arith, h e, none-counts n [] tt)
  pick-counts n ((f ∷ q) ∷ qs) r = λ e.
      let k : All (λ g. counts p a n g ≡ false) q = all-imp q (λ g. counts_behind n f g e) r.0.0 in
      omega (arith, none-counts n (f ∷ q) (e, k), none_below (suc n) qs (at-or-below (counts-not p a n f e)))
    where
      at-or-below : (p < n) ⊎ ((n ≡ p) × (a < f.since)) → p < suc n
      at-or-below (inl u) = omega arith
      at-or-below (inr u) = omega (arith, u.0)

  module _ (grain : ℕ) (divided : 1 ≤ grain) (offered : ℕ → ℕ) where
    -- Taking a frame that counts moves its slots to the wire.
    take-unsent : (slot : ℕ) (w : Wire) (qs : List (List Frame)) (d : List Frame) → EachLevel Long 1 qs → All Rising qs →
        1 ≤ held (whole p a) (link w qs d) →
        (unsent grain p a (take grain (offered slot) (link w qs d)) ≡ unsent grain p a (link w qs d))
        × (1 ≤ wire_slots (take grain (offered slot) (link w qs d)).wire)
    unfolding take start held under_way unsent wire_slots whole sending_time
    take-unsent slot idle qs d long r h = go (pick 1 qs) (pick-weighs (whole p a) 1 qs) (pick-counts 1 qs r) (pick-each Long 1 qs long)
      where
        started : Option Pick → LinkState
        started o = start grain (offered slot) o (link idle qs d)

        go : (o : Option Pick) → PickWeighs (whole p a) 1 qs o → PickCounts 1 qs o → PickEach Long 1 o →
            (unsent grain p a (started o) ≡ unsent grain p a (link idle qs d)) × (1 ≤ wire_slots (started o).wire)
        go none e c l = absurd (omega (arith, e))
        go (some k) e c l = (counted (counts p a k.level k.frame) refl, omega arith)
          where
            counted : (b : Bool) → counts p a k.level k.frame ≡ b → unsent grain p a (started (some k)) ≡ unsent grain p a (link idle qs d)
            counted true u =
                let w : waiting (whole p a) 1 qs ≡ k.frame.length + waiting (whole p a) 1 k.rest = omega (arith, e, ap (λ b. cond b k.frame.length 0) u) in
                omega (arith, ap (λ z. grain * z) w, some-time grain k.frame.length divided l.0)
            counted false u = absurd (omega (arith, c u))
    take-unsent slot (sending n f more) qs d long r h = (refl, omega arith)
    take-unsent slot (sending_best_effort more) qs d long r h = (refl, omega arith)

    send-unsent : (w : Wire) (qs : List (List Frame)) (d : List Frame) → 1 ≤ wire_slots w →
        unsent grain p a (send (link w qs d)) + 1 ≡ unsent grain p a (link w qs d)
    unfolding send unsent wire_slots
    send-unsent idle qs d h = absurd (omega arith)
    send-unsent (sending n f zero) qs d h = omega arith
    send-unsent (sending n f (suc more)) qs d h = omega arith
    send-unsent (sending_best_effort zero) qs d h = omega arith
    send-unsent (sending_best_effort (suc more)) qs d h = omega arith

    slot-unsent : (slot : ℕ) (l : LinkState) → Each Long l → All Rising l.levels → 1 ≤ held (whole p a) l →
        unsent grain p a (time_slot grain (offered slot) l) + 1 ≡ unsent grain p a l
    unfolding time_slot
    slot-unsent slot l long r h =
        let k = take grain (offered slot) l in
        let t = take-unsent slot l.wire l.levels l.left long.levels r h in
        omega (arith, t.0, send-unsent k.wire k.levels k.left t.1)

    pub interval-unsent : (n : ℕ) (l : LinkState) → Each Long l → All Rising l.levels →
        (unsent grain p a (interval grain offered n l) + n ≡ unsent grain p a l) ⊎ (held (whole p a) (interval grain offered n l) ≡ 0)
    unfolding interval
    interval-unsent zero l long r = inl (omega arith)
    interval-unsent (suc n) l long r = go (interval-unsent n l long r) (held (whole p a) (interval grain offered n l)) refl
      where
        i : LinkState
        i = interval grain offered n l

        go : (unsent grain p a i + n ≡ unsent grain p a l) ⊎ (held (whole p a) i ≡ 0) → (k : ℕ) → held (whole p a) i ≡ k →
            (unsent grain p a (time_slot grain (offered n) i) + suc n ≡ unsent grain p a l) ⊎ (held (whole p a) (time_slot grain (offered n) i) ≡ 0)
        go (inr z) k e = inr (omega (arith, slot_held (whole p a) grain offered n i))
        go (inl u) zero e = inr (omega (arith, slot_held (whole p a) grain offered n i))
        go (inl u) (suc k) e =
            inl (omega (arith, slot-unsent n i (interval-each Long grain offered n l long) (interval-rising grain offered n l r) (omega arith)))

-- The bytes of what is under way; a best-effort frame has `most` at most.
unfoldable pub wire_bytes : (most : ℕ) → Wire → ℕ
wire_bytes most idle = 0
wire_bytes most (sending n f more) = f.length
wire_bytes most (sending_best_effort more) = most

-- What is under way has at most all its slots unsent.
unfoldable pub WireFits : (grain most : ℕ) → LinkState → Type 0
WireFits grain most l = wire_slots l.wire ≤ sending_time grain (wire_bytes most l.wire)

module _ (grain : ℕ) (divided : 1 ≤ grain) (offered : ℕ → ℕ) (most : ℕ) (offers : (slot : ℕ) → offered slot ≤ most) where
  take-fits : (slot : ℕ) (w : Wire) (qs : List (List Frame)) (d : List Frame) → EachLevel Long 1 qs →
      WireFits grain most (link w qs d) → WireFits grain most (take grain (offered slot) (link w qs d))
  unfolding take start start_best_effort WireFits wire_slots wire_bytes sending_time
  take-fits slot idle qs d long h = go (pick 1 qs) (offered slot) (offers slot) (pick-each Long 1 qs long)
    where
      go : (o : Option Pick) (bytes : ℕ) → bytes ≤ most → PickEach Long 1 o → WireFits grain most (start grain bytes o (link idle qs d))
      go none zero u l = h
      go none (suc b) u l = omega (arith, some-time grain (suc b) divided (omega arith), mul-le-mul_left grain u)
      go (some k) b u l = omega (arith, some-time grain k.frame.length divided l.0)
  take-fits slot (sending n f more) qs d long h = h
  take-fits slot (sending_best_effort more) qs d long h = h

  send-fits : (w : Wire) (qs : List (List Frame)) (d : List Frame) → WireFits grain most (link w qs d) → WireFits grain most (send (link w qs d))
  unfolding send WireFits wire_slots wire_bytes
  send-fits idle qs d h = h
  send-fits (sending n f zero) qs d h = omega arith
  send-fits (sending n f (suc more)) qs d h = omega arith
  send-fits (sending_best_effort zero) qs d h = omega arith
  send-fits (sending_best_effort (suc more)) qs d h = omega arith

  pub interval-fits : (n : ℕ) (l : LinkState) → Each Long l → WireFits grain most l → WireFits grain most (interval grain offered n l)
  interval-fits n l long h =
      (interval-keeps (λ k. Each Long k × WireFits grain most k) grain offered
      (λ slot k u. (
        take-each Long grain offered slot k.wire k.levels k.left u.0,
        take-fits slot k.wire k.levels k.left u.0.levels u.1,
      ))
      (λ k u. (send-each Long k.wire k.levels k.left u.0, send-fits k.wire k.levels k.left u.1))
      n l (long, h)).1

-- With no frame that counts, what is unsent is a frame of a level below, or a best-effort frame.
module _ (grain p a most m : ℕ) (alone : most ≤ m) where
  quiet-wire : (w : Wire) → under_way (whole p a) w ≡ 0 →
      OnWire (λ n f. (1 ≤ f.length) × (f.since ≤ a) × (p < n → f.length ≤ m)) w → wire_bytes most w ≤ m
  unfolding under_way wire_bytes whole
  quiet-wire idle z h = omega arith
  quiet-wire (sending n f more) z h = go (counts p a n f) refl
    where
      below : (p < n) ⊎ ((n ≡ p) × (a < f.since)) → f.length ≤ m
      below (inl u) = h.2 u
      below (inr u) = absurd (omega (arith, u.1, h.1))

      go : (b : Bool) → counts p a n f ≡ b → f.length ≤ m
      go true e = absurd (omega (arith, ap (λ b. cond b f.length 0) e, h.0))
      go false e = below (counts-not p a n f e)
  quiet-wire (sending_best_effort more) z h = alone

  pub quiet-unsent : (l : LinkState) → held (whole p a) l ≡ 0 → WireFits grain most l →
      OnWire (λ n f. (1 ≤ f.length) × (f.since ≤ a) × (p < n → f.length ≤ m)) l.wire → unsent grain p a l ≤ sending_time grain m
  unfolding held unsent WireFits sending_time
  quiet-unsent l z fits h =
      let none : waiting (whole p a) 1 l.levels ≡ 0 = omega arith in
      omega (arith, ap (λ z. grain * z) none, mul-le-mul_left grain (quiet-wire l.wire (omega arith) h))
