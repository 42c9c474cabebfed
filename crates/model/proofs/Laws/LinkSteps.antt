-- A link walked level by level with running sums: a level's code depends on the levels above by their sums and on those below by blocking
-- alone, so a loop may carry those; and a link padded with empty levels, which change nothing. For any number of levels. Assumes nothing.
use Prim.Native.Nat.{ℕ, zero, suc, ◌+◌, ◌*◌, ◌≤◌, ◌<◌, max}
use Rattle.std.specs.Prelude.{◌≡◌, length, get_or, drop}
use Rattle.std.proofs.Math.Path.{refl, sym, ap, ap₂}
use Rattle.std.proofs.Common.{◌∙◌, add-zero, arith, ne_eqb, lt-ltb}
use Rattle.std.proofs.Math.Bool.{cond}
use mathlib.Core.List.{List, [], ◌∷◌, ◌++◌}
use Rattle.std.proofs.Math.Numerals.{add-one}
use Rattle.model.specs.Words.{All}
use Rattle.model.specs.Total.{total, largest}
use Rattle.model.proofs.Laws.Total.{total-append, total-next, total-zero, largest-append, largest-next, largest-drop, largest-zero}
use Rattle.model.proofs.Laws.All.{all-imp}
use Rattle.model.specs.Formula.{Aggregate, within_rate, delay, backlog, blocking, interference, level_residual}
use Rattle.model.specs.QueueTable.{Queue}
use Rattle.model.specs.LinkCheck.{Finding, is_empty, level_code, or_else, levels_finding, rate_code, link_finding}
use Rattle.model.specs.WithFlow.{no_flow, together}
use Rattle.model.specs.Laws.LinkSteps.{blockings, clear, level_finding}

pub blockings-at : (best_effort : ℕ) (levels : List Aggregate) (i : ℕ) → i < length levels
    → get_or (blockings best_effort levels) i 0 ≡ blocking best_effort (drop (suc i) levels)
unfolding blockings
blockings-at best_effort [] i h = absurd (omega arith)
blockings-at best_effort (a ∷ below) zero h = refl
blockings-at best_effort (a ∷ below) (suc i) h = blockings-at best_effort below i (omega arith)

-- One level more, from the last one up: below the last one there is the best-effort frame alone.
pub blocking-none : (best_effort : ℕ) → blocking best_effort [] ≡ best_effort
unfolding blocking largest
blocking-none best_effort = omega arith

pub blocking-more : (best_effort : ℕ) (a : Aggregate) (below : List Aggregate) → blocking best_effort (a ∷ below) ≡ max a.frame (blocking best_effort below)
unfolding blocking largest
blocking-more best_effort a below = omega arith

-- What a level's code depends on, besides the level itself.
level_code-same : (speed best_effort best_effort' : ℕ) (q : Queue) (own : Aggregate) (above above' below below' : List Aggregate)
    → total (λ a. a.rate) above ≡ total (λ a. a.rate) above' → total (λ a. a.burst) above ≡ total (λ a. a.burst) above'
    → blocking best_effort below ≡ blocking best_effort' below'
    → level_code speed best_effort q above own below ≡ level_code speed best_effort' q above' own below'
unfolding level_code delay backlog interference level_residual
level_code-same speed best_effort best_effort' q own above above' below below' rates bursts blocked = simp (rates, bursts, blocked)

or_else-clear : (code n : ℕ) (b : Finding) → or_else (record { code = code; level = n }) b ≡ or_else (or_else (record { code = code; level = n }) clear) b
unfolding or_else
or_else-clear zero n b = refl
or_else-clear (suc c) n b = simp (ne_eqb (suc c) 0 (λ e. omega arith))

no-levels : (speed best_effort n : ℕ) (above : List Aggregate) (queues : List Queue) → levels_finding speed best_effort n above queues [] ≡ clear
unfolding levels_finding
no-levels speed best_effort n above [] = refl
no-levels speed best_effort n above (q ∷ qs) = refl

-- How far a check has come: the first `i` levels pass, and `sum` has their sums.
pub record Passed (speed best_effort : ℕ) (queues : List Queue) (levels : List Aggregate) (i : ℕ) (sum : Aggregate) : Type 0 where
  pub above : List Aggregate
  pub rate : total (λ a. a.rate) above ≡ sum.rate
  pub burst : total (λ a. a.burst) above ≡ sum.burst
  pub split : (f : Aggregate → ℕ) → total f above + total f (drop i levels) ≡ total f levels
  pub same : levels_finding speed best_effort 1 [] queues levels ≡ levels_finding speed best_effort (i + 1) above (drop i queues) (drop i levels)

pub passed_none : (speed best_effort : ℕ) (queues : List Queue) (levels : List Aggregate) → Passed speed best_effort queues levels 0 no_flow
unfolding no_flow total
passed_none speed best_effort queues levels = record { above = []; rate = refl; burst = refl; split = λ f. omega arith; same = refl }

module _ {speed best_effort : ℕ} {queues : List Queue} {levels : List Aggregate} {i : ℕ} {sum : Aggregate} (p : Passed speed best_effort queues levels i sum) where
  pub passed-all : drop i levels ≡ [] → levels_finding speed best_effort 1 [] queues levels ≡ clear
  passed-all end = p.same ∙ ap (levels_finding speed best_effort (i + 1) p.above (drop i queues)) end ∙ no-levels speed best_effort (i + 1) p.above (drop i queues)

  module _ {q : Queue} {own : Aggregate} (q-next : drop i queues ≡ q ∷ drop (i + 1) queues) (own-next : drop i levels ≡ own ∷ drop (i + 1) levels) where
    -- The level's own share of the sums, and the frames that count at it.
    pub passed-room : (sum.rate + own.rate ≤ total (λ a. a.rate) levels)
        × (sum.burst + own.burst ≤ total (λ a. a.burst) levels)
        × (own.frame ≤ largest (λ a. a.frame) levels)
        × (blocking best_effort (drop (i + 1) levels) ≤ largest (λ a. a.frame) levels + best_effort)
    unfolding blocking
    passed-room = (
      omega (arith, p.rate, p.split (λ a. a.rate), total-next (λ a. a.rate) own-next),
      omega (arith, p.burst, p.split (λ a. a.burst), total-next (λ a. a.burst) own-next),
      omega (arith, largest-next (λ a. a.frame) own-next, largest-drop (λ a. a.frame) i levels),
      omega (arith, largest-drop (λ a. a.frame) (i + 1) levels),
    )

    passed-level : levels_finding speed best_effort 1 [] queues levels
        ≡ or_else (level_finding speed (i + 1) q sum own (blocking best_effort (drop (i + 1) levels)))
        (levels_finding speed best_effort (suc (i + 1)) (own ∷ p.above) (drop (i + 1) queues) (drop (i + 1) levels))
    unfolding levels_finding level_finding total
    passed-level =
        let blocked : ℕ = blocking best_effort (drop (i + 1) levels) in
        let code : level_code speed best_effort q p.above own (drop (i + 1) levels) ≡ level_code speed blocked q (sum ∷ []) own []
        = level_code-same speed best_effort blocked q own p.above (sum ∷ []) (drop (i + 1) levels) []
        (p.rate ∙ sym (add-zero _)) (p.burst ∙ sym (add-zero _)) (sym (blocking-none blocked)) in
        let rest = levels_finding speed best_effort (suc (i + 1)) (own ∷ p.above) (drop (i + 1) queues) (drop (i + 1) levels) in
        p.same
        ∙ ap₂ (levels_finding speed best_effort (i + 1) p.above) q-next own-next
        ∙ ap (λ (c : ℕ). or_else (record { code = c; level = i + 1 }) rest) code
        ∙ or_else-clear (level_code speed blocked q (sum ∷ []) own []) (i + 1) rest

    pub passed-next : level_finding speed (i + 1) q sum own (blocking best_effort (drop (i + 1) levels)) ≡ clear
        → Passed speed best_effort queues levels (i + 1) (together sum own)
    unfolding together total or_else
    passed-next fits =
        record {
          above = own ∷ p.above;
          rate = omega (arith, p.rate);
          burst = omega (arith, p.burst);
          split = λ f. omega (arith, total-next f own-next, p.split f);
          same = passed-level ∙ rw (fits, add-one (i + 1));
        }

    pub passed-found : (f : Finding) → level_finding speed (i + 1) q sum own (blocking best_effort (drop (i + 1) levels)) ≡ f
        → (f.code ≡ 0 → ⊥) → levels_finding speed best_effort 1 [] queues levels ≡ f
    unfolding or_else
    passed-found f found fault = passed-level ∙ rw found (simp (ne_eqb f.code 0 fault))

-- Levels without a flow: no rate, no frame, nothing to find.
abbrev pub Empty : List Aggregate → Type 0
Empty = All (λ a. a ≡ no_flow)

empty-zero : (f : Aggregate → ℕ) → f no_flow ≡ 0 → (empties : List Aggregate) → Empty empties → All (λ a. f a ≡ 0) empties
empty-zero f z empties none = all-imp empties (λ a e. ap f e ∙ z) none

empty-levels : (speed best_effort n : ℕ) (above : List Aggregate) (queues : List Queue) (empties : List Aggregate) → Empty empties
    → levels_finding speed best_effort n above queues empties ≡ clear
unfolding levels_finding level_code is_empty no_flow or_else
empty-levels speed best_effort n above queues [] none = no-levels speed best_effort n above queues
empty-levels speed best_effort n above [] (a ∷ empties) none = refl
empty-levels speed best_effort n above (q ∷ queues) (a ∷ empties) none = rw none.0 (empty-levels speed best_effort (suc n) (no_flow ∷ above) queues empties none.1)

-- A link without a flow.
pub empty-link : (speed best_effort : ℕ) (queues : List Queue) (empties : List Aggregate) → Empty empties → 1 ≤ speed → (link_finding speed best_effort queues empties).code ≡ 0
unfolding link_finding rate_code within_rate or_else no_flow
empty-link speed best_effort queues empties none moving =
    let rates : total (λ a. a.rate) empties ≡ 0 = total-zero (λ a. a.rate) empties (empty-zero (λ a. a.rate) refl empties none) in
    simp (rates, lt-ltb 0 (1000 * speed) (omega arith), empty-levels speed best_effort 1 [] queues empties none)

module _ (speed best_effort : ℕ) (more : List Queue) (empties : List Aggregate) (none : Empty empties) where
  padded-levels : (n : ℕ) (above : List Aggregate) (queues : List Queue) (levels : List Aggregate) → length queues ≡ length levels
      → levels_finding speed best_effort n above (queues ++ more) (levels ++ empties) ≡ levels_finding speed best_effort n above queues levels
  unfolding levels_finding no_flow blocking
  padded-levels n above [] [] e = empty-levels speed best_effort n above more empties none
  padded-levels n above [] (a ∷ levels) e = absurd (omega arith)
  padded-levels n above (q ∷ queues) [] e = absurd (omega arith)
  padded-levels n above (q ∷ queues) (a ∷ levels) e =
      let frames : largest (λ a. a.frame) (levels ++ empties) ≡ largest (λ a. a.frame) levels
      = omega (arith, largest-append (λ a. a.frame) levels empties, largest-zero (λ a. a.frame) empties (empty-zero (λ a. a.frame) refl empties none)) in
      ap₂ (λ (c : ℕ) (f : Finding). or_else (record { code = c; level = n }) f)
      (level_code-same speed best_effort best_effort q a above above (levels ++ empties) levels refl refl (ap (λ (m : ℕ). max m best_effort) frames))
      (padded-levels (suc n) (a ∷ above) queues levels (omega arith))

  -- A link with fewer levels may be handed over with empty ones behind.
  pub padding : (queues : List Queue) (levels : List Aggregate) → length queues ≡ length levels
      → link_finding speed best_effort (queues ++ more) (levels ++ empties) ≡ link_finding speed best_effort queues levels
  unfolding link_finding rate_code no_flow
  padding queues levels e =
      let rates : total (λ a. a.rate) (levels ++ empties) ≡ total (λ a. a.rate) levels
      = omega (arith, total-append (λ a. a.rate) levels empties, total-zero (λ a. a.rate) empties (empty-zero (λ a. a.rate) refl empties none)) in
      ap₂ (λ (r : ℕ) (f : Finding). or_else (record { code = cond (within_rate speed r) 0 21; level = 0 }) f) rates (padded-levels 1 [] queues levels e)
