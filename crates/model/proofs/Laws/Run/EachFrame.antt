-- One link: a property of each frame and its level, and the order of each level, are kept by an interval and by the arrivals of an instant.
-- A slot moves the head of a level to the wire and from there to those that have left; a best-effort frame touches neither. Assumes nothing.
use Prim.Native.Nat.{ℕ, zero, suc, ◌≤◌}
use Rattle.std.specs.Prelude.{◌≡◌, refl, length}
use Rattle.std.proofs.Common.{ap, arith}
use mathlib.Core.List.{List, [], ◌∷◌, ◌++◌}
use Rattle.std.proofs.Math.Option.{Option, none, some}
use Rattle.model.specs.Words.{All}
use Rattle.model.specs.QueueTable.{Queue, Link}
use Rattle.model.specs.Run.{Frame, Wire, idle, sending, sending_best_effort, LinkState, Pick, past_empty, pick, start_best_effort, start, take, send, interval, append, enter, empty_levels, empty_link}
use Rattle.model.proofs.Laws.All.{all_append, all-imp, all-imp₂}
use Rattle.model.proofs.Laws.Run.OneLink.{EachLevel, OnWire, Each, Rising, link, interval-keeps}

module _ (P : ℕ → Frame → Type 0) where
  abbrev pub PickEach : ℕ → Option Pick → Type 0
  PickEach n none = Unit {0}
  PickEach n (some p) = P p.level p.frame × EachLevel P n p.rest

  pub pick-each : (n : ℕ) (qs : List (List Frame)) → EachLevel P n qs → PickEach n (pick n qs)
  unfolding pick past_empty
  pick-each n [] h = tt
  pick-each n ([] ∷ qs) h = go (pick (suc n) qs) (pick-each (suc n) qs h.1)
    where
      go : (o : Option Pick) → PickEach (suc n) o → PickEach n (past_empty o)
      go none h = tt
      go (some p) h = (h.0, (tt, h.1))
  pick-each n ((f ∷ q) ∷ qs) h = (h.0.0, (h.0.1, h.1))

  pub send-each : (w : Wire) (qs : List (List Frame)) (d : List Frame) → Each P (link w qs d) → Each P (send (link w qs d))
  unfolding send
  send-each idle qs d h = h
  send-each (sending n f zero) qs d h =
      record { wire = tt; levels = h.levels; left = all_append (λ f. (n : ℕ) × P n f) d (f ∷ []) h.left ((n, h.wire), tt) }
  send-each (sending n f (suc more)) qs d h = record { wire = h.wire; levels = h.levels; left = h.left }
  send-each (sending_best_effort zero) qs d h = record { wire = tt; levels = h.levels; left = h.left }
  send-each (sending_best_effort (suc more)) qs d h = record { wire = tt; levels = h.levels; left = h.left }

  module _ (grain : ℕ) (offered : ℕ → ℕ) where
    pub take-each : (slot : ℕ) (w : Wire) (qs : List (List Frame)) (d : List Frame) → Each P (link w qs d) → Each P (take grain (offered slot) (link w qs d))
    unfolding take start start_best_effort
    take-each slot idle qs d h = go (pick 1 qs) (offered slot) (pick-each 1 qs h.levels)
      where
        go : (o : Option Pick) (bytes : ℕ) → PickEach 1 o → Each P (start grain bytes o (link idle qs d))
        go none zero k = h
        go none (suc b) k = record { wire = tt; levels = h.levels; left = h.left }
        go (some p) b k = record { wire = k.0; levels = k.1; left = h.left }
    take-each slot (sending n f more) qs d h = h
    take-each slot (sending_best_effort more) qs d h = h

    pub interval-each : (n : ℕ) (l : LinkState) → Each P l → Each P (interval grain offered n l)
    interval-each =
        interval-keeps (Each P) grain offered (λ slot k. take-each slot k.wire k.levels k.left) (λ k. send-each k.wire k.levels k.left)

  pub append-each : (new : ℕ → List Frame) → ((n : ℕ) → All (P n) (new n)) →
      (n : ℕ) (qs : List (List Frame)) → EachLevel P n qs → EachLevel P n (append new n qs)
  unfolding append
  append-each new k n [] h = tt
  append-each new k n (q ∷ qs) h = (all_append (P n) q (new n) h.0 (k n), append-each new k (suc n) qs h.1)

  pub enter-each : (new : ℕ → List Frame) (l : LinkState) → ((n : ℕ) → All (P n) (new n)) →
      OnWire P l.wire → EachLevel P 1 l.levels → Each P (enter new l)
  unfolding enter
  enter-each new l k w h = record { wire = w; levels = append-each new k 1 l.levels h; left = tt }

  pub empty-levels : (n : ℕ) (qs : List Queue) → EachLevel P n (empty_levels qs)
  unfolding empty_levels
  empty-levels n [] = tt
  empty-levels n (q ∷ qs) = (tt, empty-levels (suc n) qs)

  pub empty-each : (k : Option Link) → Each P (empty_link k)
  unfolding empty_link
  empty-each none = record { wire = tt; levels = tt; left = tt }
  empty-each (some k) = record { wire = tt; levels = empty-levels 1 k.levels; left = tt }

module _ (P Q : ℕ → Frame → Type 0) (up : (n : ℕ) (f : Frame) → P n f → Q n f) where
  pub levels-up : (n : ℕ) (qs : List (List Frame)) → EachLevel P n qs → EachLevel Q n qs
  levels-up n [] h = tt
  levels-up n (q ∷ qs) h = (all-imp q (up n) h.0, levels-up (suc n) qs h.1)

  wire-up : (w : Wire) → OnWire P w → OnWire Q w
  wire-up idle h = tt
  wire-up (sending n f more) h = up n f h
  wire-up (sending_best_effort more) h = tt

  pub each-up : (l : LinkState) → Each P l → Each Q l
  each-up l h =
      record {
        wire = wire-up l.wire h.wire;
        levels = levels-up 1 l.levels h.levels;
        left = all-imp l.left (λ f k. (k.0, up k.0 f k.1)) h.left;
      }

module _ (P Q R : ℕ → Frame → Type 0) (both : (n : ℕ) (f : Frame) → P n f → Q n f → R n f) where
  pub levels-both : (n : ℕ) (qs : List (List Frame)) → EachLevel P n qs → EachLevel Q n qs → EachLevel R n qs
  levels-both n [] h k = tt
  levels-both n (q ∷ qs) h k = (all-imp₂ q (both n) h.0 k.0, levels-both (suc n) qs h.1 k.1)

  pub wire-both : (w : Wire) → OnWire P w → OnWire Q w → OnWire R w
  wire-both idle h k = tt
  wire-both (sending n f more) h k = both n f h k
  wire-both (sending_best_effort more) h k = tt

-- What the levels have whichever frame is picked, an interval keeps.
abbrev PickKeeps : (List (List Frame) → Type 0) → Option Pick → Type 0
PickKeeps K none = Unit {0}
PickKeeps K (some p) = K p.rest

module _ (K : List (List Frame) → Type 0) (picks : (qs : List (List Frame)) → K qs → PickKeeps K (pick 1 qs)) (grain : ℕ) (offered : ℕ → ℕ) where
  take-levels : (slot : ℕ) (w : Wire) (qs : List (List Frame)) (d : List Frame) → K qs → K (take grain (offered slot) (link w qs d)).levels
  unfolding take start start_best_effort
  take-levels slot idle qs d h = go (pick 1 qs) (offered slot) (picks qs h)
    where
      go : (o : Option Pick) (bytes : ℕ) → PickKeeps K o → K (start grain bytes o (link idle qs d)).levels
      go none zero k = h
      go none (suc b) k = h
      go (some p) b k = k
  take-levels slot (sending n f more) qs d h = h
  take-levels slot (sending_best_effort more) qs d h = h

  send-levels : (w : Wire) (qs : List (List Frame)) (d : List Frame) → K qs → K (send (link w qs d)).levels
  unfolding send
  send-levels idle qs d h = h
  send-levels (sending n f zero) qs d h = h
  send-levels (sending n f (suc more)) qs d h = h
  send-levels (sending_best_effort zero) qs d h = h
  send-levels (sending_best_effort (suc more)) qs d h = h

  interval-levels : (n : ℕ) (l : LinkState) → K l.levels → K (interval grain offered n l).levels
  interval-levels =
      interval-keeps (λ k. K k.levels) grain offered (λ slot k. take-levels slot k.wire k.levels k.left)
      (λ k. send-levels k.wire k.levels k.left)

-- The number of levels.
pick-count : (c n : ℕ) (qs : List (List Frame)) → length qs ≡ c → PickKeeps (λ l. length l ≡ c) (pick n qs)
unfolding pick past_empty
pick-count c n [] e = tt
pick-count c n ([] ∷ qs) e = go (pick (suc n) qs) (pick-count (length qs) (suc n) qs refl)
  where
    go : (o : Option Pick) → PickKeeps (λ l. length l ≡ length qs) o → PickKeeps (λ l. length l ≡ c) (past_empty o)
    go none h = tt
    go (some p) h = omega (arith, h, e)
pick-count c n ((f ∷ q) ∷ qs) e = e

pub interval-count : (c grain : ℕ) (offered : ℕ → ℕ) (n : ℕ) (l : LinkState) → length l.levels ≡ c → length (interval grain offered n l).levels ≡ c
interval-count c = interval-levels (λ l. length l ≡ c) (pick-count c 1)

pub append-count : (new : ℕ → List Frame) (n : ℕ) (qs : List (List Frame)) → length (append new n qs) ≡ length qs
unfolding append
append-count new n [] = refl
append-count new n (q ∷ qs) = ap suc (append-count new (suc n) qs)

-- The order of each level.
pick-rising : (n : ℕ) (qs : List (List Frame)) → All Rising qs → PickKeeps (All Rising) (pick n qs)
unfolding pick past_empty
pick-rising n [] h = tt
pick-rising n ([] ∷ qs) h = go (pick (suc n) qs) (pick-rising (suc n) qs h.1)
  where
    go : (o : Option Pick) → PickKeeps (All Rising) o → PickKeeps (All Rising) (past_empty o)
    go none h = tt
    go (some p) h = (tt, h)
pick-rising n ((f ∷ q) ∷ qs) h = (h.0.1, h.1)

pub interval-rising : (grain : ℕ) (offered : ℕ → ℕ) (n : ℕ) (l : LinkState) → All Rising l.levels → All Rising (interval grain offered n l).levels
interval-rising = interval-levels (All Rising) (pick-rising 1)

rising-append : (x : ℕ) (q new : List Frame) → Rising q → All (λ f. f.since ≤ x) q → All (λ f. f.since ≡ x) new → Rising new → Rising (q ++ new)
rising-append x [] new h u e k = k
rising-append x (f ∷ q) new h u e k = (
  all_append (λ g. f.since ≤ g.since) q new h.0
      (all-imp new (λ g e. omega (arith, u.0)) e),
  rising-append x q new h.1 u.1 e k,
)

rising-same : (x : ℕ) (q : List Frame) → All (λ f. f.since ≡ x) q → Rising q
rising-same x [] e = tt
rising-same x (f ∷ q) e =
    (all-imp q (λ g k. omega (arith, e.0)) e.1, rising-same x q e.1)

pub enter-rising : (x : ℕ) (new : ℕ → List Frame) → ((n : ℕ) → All (λ f. f.since ≡ x) (new n)) → (n : ℕ) (qs : List (List Frame)) →
    EachLevel (λ n f. f.since ≤ x) n qs → All Rising qs → All Rising (append new n qs)
unfolding append
enter-rising x new e n [] u h = tt
enter-rising x new e n (q ∷ qs) u h =
    (rising-append x q (new n) h.0 u.0 (e n) (rising-same x (new n) (e n)), enter-rising x new e (suc n) qs u.1 h.1)

empty-levels-rising : (qs : List Queue) → All Rising (empty_levels qs)
unfolding empty_levels
empty-levels-rising [] = tt
empty-levels-rising (q ∷ qs) = (tt, empty-levels-rising qs)

pub empty-rising : (k : Option Link) → All Rising (empty_link k).levels
unfolding empty_link
empty-rising none = tt
empty-rising (some k) = empty-levels-rising k.levels
