-- One link: what a slot, an interval and the arrivals of an instant do to the weight of its frames, to what holds of each of them, and to their order.
-- Each law is shown for taking a frame and for sending, for any weight, any property and whatever is offered. A best-effort frame weighs nothing. Assumes nothing.
use Prim.Native.Nat.{ℕ, zero, suc, ◌+◌, ◌≤◌}
use Rattle.std.specs.Prelude.{◌≡◌, length}
use Rattle.std.proofs.Math.Path.{refl, ap}
use mathlib.Core.List.{List, [], ◌∷◌}
use Rattle.std.proofs.Math.Option.{Option, none, some}
use native.Mathlib.Omega.{arith}
use Rattle.model.specs.Words.{All}
use Rattle.model.specs.Total.{total}
use Rattle.model.specs.QueueTable.{Queue, Link}
use Rattle.model.specs.Run.{Frame, Wire, idle, sending, sending_best_effort, LinkState, Pick, past_empty, pick, start_best_effort, start, take, send, time_slot, interval, append, enter, empty_levels, empty_link, window}
use Rattle.model.proofs.Laws.All.{member-all}
use Rattle.model.proofs.Laws.Total.{total-append, total-zero, total-each}
use Rattle.model.proofs.Laws.Run.Windows.{window-front}

-- A weight reads a frame and the level it is at. What waits, at the levels from number `n` on:
unfoldable pub waiting : (ℕ → Frame → ℕ) → (n : ℕ) → List (List Frame) → ℕ
waiting m n [] = 0
waiting m n (q ∷ qs) = total (m n) q + waiting m (suc n) qs

unfoldable pub under_way : (ℕ → Frame → ℕ) → Wire → ℕ
under_way m idle = 0
under_way m (sending n f more) = m n f
under_way m (sending_best_effort more) = 0

-- What is in the queues of a link, waiting or under way.
unfoldable pub held : (ℕ → Frame → ℕ) → LinkState → ℕ
held m l = under_way m l.wire + waiting m 1 l.levels

abbrev pub EachLevel : (ℕ → Frame → Type 0) → ℕ → List (List Frame) → Type 0
EachLevel P n [] = Unit {0}
EachLevel P n (q ∷ qs) = All (P n) q × EachLevel P (suc n) qs

abbrev pub OnWire : (ℕ → Frame → Type 0) → Wire → Type 0
OnWire P idle = Unit {0}
OnWire P (sending n f more) = P n f
OnWire P (sending_best_effort more) = Unit {0}

-- What holds of each frame of a link and its level, of those that have left too.
pub record Each (P : ℕ → Frame → Type 0) (l : LinkState) : Type 0 where
  pub wire : OnWire P l.wire
  pub levels : EachLevel P 1 l.levels
  pub left : All (λ f. (n : ℕ) × P n f) l.left

-- A frame has something to send.
abbrev pub Long : ℕ → Frame → Type 0
Long n f = 1 ≤ f.length

-- Frames stand in the order in which they came.
abbrev pub Rising : List Frame → Type 0
Rising [] = Unit {0}
Rising (f ∷ q) = All (λ g. f.since ≤ g.since) q × Rising q

abbrev pub link : Wire → List (List Frame) → List Frame → LinkState
link w qs d = record { wire = w; levels = qs; left = d }

-- What taking a frame and sending keep in each slot, an interval keeps.
module _ (K : LinkState → Type 0) (grain : ℕ) (offered : ℕ → ℕ) (takes : (slot : ℕ) (l : LinkState) → K l → K (take grain (offered slot) l))
    (sends : (l : LinkState) → K l → K (send l)) where
  pub interval-keeps : (n : ℕ) (l : LinkState) → K l → K (interval grain offered n l)
  unfolding interval time_slot
  interval-keeps zero l h = h
  interval-keeps (suc n) l h = let i = interval grain offered n l in sends (take grain (offered n) i) (takes n i (interval-keeps n l h))

-- The weight of the frames.
module _ (m : ℕ → Frame → ℕ) where
  abbrev pub PickWeighs : ℕ → List (List Frame) → Option Pick → Type 0
  PickWeighs n qs none = waiting m n qs ≡ 0
  PickWeighs n qs (some p) = waiting m n qs ≡ m p.level p.frame + waiting m n p.rest

  pub pick-weighs : (n : ℕ) (qs : List (List Frame)) → PickWeighs n qs (pick n qs)
  unfolding pick past_empty waiting total
  pick-weighs n [] = refl
  pick-weighs n ([] ∷ qs) = go (pick (suc n) qs) (pick-weighs (suc n) qs)
    where
      go : (o : Option Pick) → PickWeighs (suc n) qs o → PickWeighs n ([] ∷ qs) (past_empty o)
      go none h = omega arith
      go (some p) h = omega arith
  pick-weighs n ((f ∷ q) ∷ qs) = omega arith

  send-held : (w : Wire) (qs : List (List Frame)) (d : List Frame) → held m (send (link w qs d)) ≤ held m (link w qs d)
  unfolding send held under_way
  send-held idle qs d = omega arith
  send-held (sending n f zero) qs d = omega arith
  send-held (sending n f (suc more)) qs d = omega arith
  send-held (sending_best_effort zero) qs d = omega arith
  send-held (sending_best_effort (suc more)) qs d = omega arith

  module _ (grain : ℕ) (offered : ℕ → ℕ) where
    take-held : (slot : ℕ) (w : Wire) (qs : List (List Frame)) (d : List Frame) → held m (take grain (offered slot) (link w qs d)) ≡ held m (link w qs d)
    unfolding take start start_best_effort held under_way
    take-held slot idle qs d = go (pick 1 qs) (offered slot) (pick-weighs 1 qs)
      where
        go : (o : Option Pick) (bytes : ℕ) → PickWeighs 1 qs o → held m (start grain bytes o (link idle qs d)) ≡ held m (link idle qs d)
        go none zero h = refl
        go none (suc b) h = refl
        go (some p) b h = omega arith
    take-held slot (sending n f more) qs d = refl
    take-held slot (sending_best_effort more) qs d = refl

    pub slot_held : (slot : ℕ) (l : LinkState) → held m (time_slot grain (offered slot) l) ≤ held m l
    unfolding time_slot
    slot_held slot l =
        let k = take grain (offered slot) l in
        omega (arith, take-held slot l.wire l.levels l.left, send-held k.wire k.levels k.left)

    pub interval-held : (n : ℕ) (l : LinkState) → held m (interval grain offered n l) ≤ held m l
    interval-held n l =
        interval-keeps (λ k. held m k ≤ held m l) grain offered
        (λ slot k h. omega (arith, take-held slot k.wire k.levels k.left))
        (λ k h. omega (arith, send-held k.wire k.levels k.left)) n l (omega arith)

  -- Arrivals add their own weight.
  pub append-waiting : (new : ℕ → List Frame) (n : ℕ) (qs : List (List Frame)) →
      waiting m n (append new n qs) ≡ waiting m n qs + window (λ k. total (m k) (new k)) n (length qs)
  unfolding append waiting window
  append-waiting new n [] = refl
  append-waiting new n (q ∷ qs) =
      omega (arith, append-waiting new (suc n) qs, total-append (m n) q (new n), window-front (λ k. total (m k) (new k)) n (length qs))

  pub enter-held : (new : ℕ → List Frame) (l : LinkState) →
      held m (enter new l) ≡ held m l + window (λ k. total (m k) (new k)) 1 (length l.levels)
  unfolding enter held
  enter-held new l = omega (arith, append-waiting new 1 l.levels)

  -- A weight that is 0 at these levels.
  pub waiting-zero : (n : ℕ) (qs : List (List Frame)) → ((k : ℕ) (f : Frame) → n ≤ k → m k f ≡ 0) → waiting m n qs ≡ 0
  unfolding waiting
  waiting-zero n [] z = refl
  waiting-zero n (q ∷ qs) z =
      omega (
        arith,
        total-zero (m n) q (member-all (λ f. m n f ≡ 0) q (λ f k. z n f (omega arith))),
        waiting-zero (suc n) qs (λ k f u. z k f (omega arith)),
      )

  empty-waiting : (n : ℕ) (qs : List Queue) → waiting m n (empty_levels qs) ≡ 0
  unfolding waiting empty_levels total
  empty-waiting n [] = refl
  empty-waiting n (q ∷ qs) = omega (arith, empty-waiting (suc n) qs)

  pub empty-held : (k : Option Link) → held m (empty_link k) ≡ 0
  unfolding held under_way waiting empty_link
  empty-held none = refl
  empty-held (some k) = omega (arith, empty-waiting 1 k.levels)

-- Two weights compared where the frames have a property, and where they need none.
module _ (P : ℕ → Frame → Type 0) (m k : ℕ → Frame → ℕ) (le : (n : ℕ) (f : Frame) → P n f → m n f ≤ k n f) where
  waiting-each : (n : ℕ) (qs : List (List Frame)) → EachLevel P n qs → waiting m n qs ≤ waiting k n qs
  unfolding waiting
  waiting-each n [] h = omega arith
  waiting-each n (q ∷ qs) h = omega (arith, total-each (P n) (m n) (k n) q (le n) h.0, waiting-each (suc n) qs h.1)

  wire-each : (w : Wire) → OnWire P w → under_way m w ≤ under_way k w
  unfolding under_way
  wire-each idle h = omega arith
  wire-each (sending n f more) h = le n f h
  wire-each (sending_best_effort more) h = omega arith

  pub held-each : (l : LinkState) → OnWire P l.wire → EachLevel P 1 l.levels → held m l ≤ held k l
  unfolding held
  held-each l w h = omega (arith, wire-each l.wire w, waiting-each 1 l.levels h)

abbrev Any : ℕ → Frame → Type 0
Any n f = Unit {0}

any-level : (n : ℕ) (qs : List (List Frame)) → EachLevel Any n qs
any-level n [] = tt
any-level n (q ∷ qs) = (member-all (Any n) q (λ f m. tt), any-level (suc n) qs)

any-wire : (w : Wire) → OnWire Any w
any-wire idle = tt
any-wire (sending n f more) = tt
any-wire (sending_best_effort more) = tt

module _ (m k : ℕ → Frame → ℕ) (le : (n : ℕ) (f : Frame) → m n f ≤ k n f) where
  pub waiting-le : (n : ℕ) (qs : List (List Frame)) → waiting m n qs ≤ waiting k n qs
  waiting-le n qs = waiting-each Any m k (λ n f u. le n f) n qs (any-level n qs)

  pub held-le : (l : LinkState) → held m l ≤ held k l
  held-le l = held-each Any m k (λ n f u. le n f) l (any-wire l.wire) (any-level 1 l.levels)

-- Frames that have left count on: an interval keeps the weight of all.
module _ (m : Frame → ℕ) where
  unfoldable pub all : LinkState → ℕ
  all l = held (λ n. m) l + total m l.left

  send-all : (w : Wire) (qs : List (List Frame)) (d : List Frame) → all (send (link w qs d)) ≡ all (link w qs d)
  unfolding send all held under_way total
  send-all idle qs d = refl
  send-all (sending n f zero) qs d = omega (arith, total-append m d (f ∷ []))
  send-all (sending n f (suc more)) qs d = refl
  send-all (sending_best_effort zero) qs d = refl
  send-all (sending_best_effort (suc more)) qs d = refl

  module _ (grain : ℕ) (offered : ℕ → ℕ) where
    take_left : (slot : ℕ) (w : Wire) (qs : List (List Frame)) (d : List Frame) → (take grain (offered slot) (link w qs d)).left ≡ d
    unfolding take start start_best_effort
    take_left slot idle qs d = go (pick 1 qs) (offered slot)
      where
        go : (o : Option Pick) (bytes : ℕ) → (start grain bytes o (link idle qs d)).left ≡ d
        go none zero = refl
        go none (suc b) = refl
        go (some p) b = refl
    take_left slot (sending n f more) qs d = refl
    take_left slot (sending_best_effort more) qs d = refl

    pub interval-all : (n : ℕ) (l : LinkState) → all (interval grain offered n l) ≡ all l
    unfolding all
    interval-all n l =
        interval-keeps (λ k. all k ≡ all l) grain offered
        (λ slot k h.
        omega (
          arith,
          take-held (λ n. m) grain offered slot k.wire k.levels k.left,
          ap (total m) (take_left slot k.wire k.levels k.left),
        ))
        (λ k h. omega (arith, send-all k.wire k.levels k.left)) n l refl
