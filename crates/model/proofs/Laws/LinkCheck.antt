-- A link with no finding, said plainly: the rate rule, and eq. 15 at each level that carries a flow. It stays so when the aggregates grow smaller.
-- By induction on the levels, for any number of them. Assumes nothing.
use Rattle.std.specs.Prelude.{ℕ, suc, ◌+◌, ◌*◌, ◌≤◌, ◌<◌, ◌≡◌, Bool, leb}
use Rattle.std.proofs.Math.Path.{refl, subst}
use Rattle.std.proofs.Math.Bool.{true, false, cond}
use mathlib.Core.List.{List, [], ◌∷◌}
use Rattle.std.proofs.Math.Option.{some}
use Rattle.std.proofs.Math.Nat.{le_trans}
use Rattle.std.proofs.Common.{arith}
use Rattle.std.proofs.Math.ListN.{get_elem?}
use Rattle.std.proofs.Math.Dec.{eqb}
use borrow.Author.Tests.{eqb-true, eqb-false, leb-true, le-leb, ltb-true, lt-ltb, ne_eqb, eq-eqb}
use Rattle.model.specs.Words.{All, Pairs, ends, pair}
use Rattle.model.specs.Total.{total}
use Rattle.model.proofs.Laws.Test.{cond-zero}
use Rattle.model.specs.Formula.{Aggregate, within_rate, delay, backlog}
use Rattle.model.proofs.Laws.Formula.{AtMost, rate-mono, delay-mono, backlog-mono}
use Rattle.model.specs.QueueTable.{Queue}
use Rattle.model.specs.Codes.{queue_codes}
use Rattle.model.specs.LinkCheck.{Finding, is_empty, level_code, or_else, levels_finding, rate_code, link_finding}

-- Eq. 15 at a level that carries a flow: its largest frame isn't 0.
pub record LevelMeets (speed best_effort : ℕ) (q : Queue) (above : List Aggregate) (own : Aggregate) (below : List Aggregate) : Type 0 where
  pub threshold : 1 ≤ own.frame → delay speed best_effort above own below ≤ q.threshold
  pub buffer : 1 ≤ own.frame → backlog speed best_effort above own below ≤ q.buffer

-- The same at each level.
abbrev pub LevelsMeet : (speed best_effort : ℕ) (above : List Aggregate) → List Queue → List Aggregate → Type 0
LevelsMeet speed best_effort above [] own = Unit {0}
LevelsMeet speed best_effort above (q ∷ qs) [] = Unit {0}
LevelsMeet speed best_effort above (q ∷ qs) (a ∷ below) = LevelMeets speed best_effort q above a below × LevelsMeet speed best_effort (a ∷ above) qs below

-- What a level's code says of its three tests: empty, delay, backlog.
code-tests : (e d b : Bool) → ◌≡◌ {A = ℕ} (cond e 0 (cond d (cond b 0 23) 22)) 0 → e ≡ false → (d ≡ true) × (b ≡ true)
code-tests e d b z full =
    let (delay, z') = cond-zero d (omega arith) (rw full at z) in
    (delay, (cond-zero b (omega arith) z').0)

tests-code : (e d b : Bool) → (e ≡ false → (d ≡ true) × (b ≡ true)) → ◌≡◌ {A = ℕ} (cond e 0 (cond d (cond b 0 23) 22)) 0
tests-code true d b h = refl
tests-code false d b h = rw ((h refl).0, (h refl).1)

module _ (speed best_effort : ℕ) (q : Queue) (above : List Aggregate) (own : Aggregate) (below : List Aggregate) where
  pub level-meets : level_code speed best_effort q above own below ≡ 0 → LevelMeets speed best_effort q above own below
  unfolding level_code is_empty
  level-meets z = record { threshold = λ h. leb-true _ _ (tests h).0; buffer = λ h. leb-true _ _ (tests h).1 }
    where
      tests : 1 ≤ own.frame
          → (leb (delay speed best_effort above own below) q.threshold ≡ true) × (leb (backlog speed best_effort above own below) q.buffer ≡ true)
      tests h =
          code-tests
          (eqb own.frame 0)
          (leb (delay speed best_effort above own below) q.threshold)
          (leb (backlog speed best_effort above own below) q.buffer)
          z
          (ne_eqb own.frame 0 (omega arith))

  pub meets-level : LevelMeets speed best_effort q above own below → level_code speed best_effort q above own below ≡ 0
  unfolding level_code is_empty
  meets-level m =
      tests-code _ _ _ λ (e : eqb own.frame 0 ≡ false).
      let h : 1 ≤ own.frame = omega (arith, eqb-false own.frame 0 e) in
      (le-leb _ _ (m.threshold h), le-leb _ _ (m.buffer h))

or_else-zero : (a b : Finding) → (or_else a b).code ≡ 0 → (a.code ≡ 0) × (b.code ≡ 0)
unfolding or_else
or_else-zero a b = go (eqb a.code 0) refl
  where
    go : (t : Bool) → eqb a.code 0 ≡ t → (cond t b a).code ≡ 0 → (a.code ≡ 0) × (b.code ≡ 0)
    go true e h = (eqb-true _ _ e, h)
    go false e h = absurd (eqb-false _ _ e h)

zero-or_else : (a b : Finding) → a.code ≡ 0 → b.code ≡ 0 → (or_else a b).code ≡ 0
unfolding or_else
zero-or_else a b ha hb = rw (eq-eqb _ _ ha) hb

module _ (speed best_effort : ℕ) where
  pub levels-meet : (n : ℕ) (above : List Aggregate) (qs : List Queue) (own : List Aggregate)
      → (levels_finding speed best_effort n above qs own).code ≡ 0
      → LevelsMeet speed best_effort above qs own
  unfolding levels_finding
  levels-meet n above [] own e = tt
  levels-meet n above (q ∷ qs) [] e = tt
  levels-meet n above (q ∷ qs) (a ∷ below) e =
      (level-meets speed best_effort q above a below (or_else-zero _ _ e).0, levels-meet (suc n) (a ∷ above) qs below (or_else-zero _ _ e).1)

  pub meet-levels : (n : ℕ) (above : List Aggregate) (qs : List Queue) (own : List Aggregate)
      → LevelsMeet speed best_effort above qs own
      → (levels_finding speed best_effort n above qs own).code ≡ 0
  unfolding levels_finding
  meet-levels n above [] own m = refl
  meet-levels n above (q ∷ qs) [] m = refl
  meet-levels n above (q ∷ qs) (a ∷ below) m =
      zero-or_else _ _ (meets-level speed best_effort q above a below m.0) (meet-levels (suc n) (a ∷ above) qs below m.1)

  -- The rate rule over all levels, and each level.
  pub link-meets : (qs : List Queue) (levels : List Aggregate) → (link_finding speed best_effort qs levels).code ≡ 0
      → (total (λ a. a.rate) levels < 1000 * speed) × LevelsMeet speed best_effort [] qs levels
  unfolding link_finding rate_code within_rate
  link-meets qs levels e =
      (ltb-true _ _ (cond-zero _ (omega arith) (or_else-zero _ _ e).0).0, levels-meet 1 [] qs levels (or_else-zero _ _ e).1)

  pub meets-link : (qs : List Queue) (levels : List Aggregate) → total (λ a. a.rate) levels < 1000 * speed → LevelsMeet speed best_effort [] qs levels
      → (link_finding speed best_effort qs levels).code ≡ 0
  unfolding link_finding rate_code within_rate
  meets-link qs levels r m = zero-or_else _ _ (rw (lt-ltb _ _ r)) (meet-levels 1 [] qs levels m)

  -- Fewer flows on each level.
  levels-mono : (qs : List Queue) {above above' own own' : List Aggregate} → Pairs AtMost above above' → Pairs AtMost own own'
      → total (λ a. a.rate) above' + total (λ a. a.rate) own' < 1000 * speed
      → LevelsMeet speed best_effort above' qs own'
      → LevelsMeet speed best_effort above qs own
  unfolding total
  levels-mono [] ups owns left m = tt
  levels-mono (q ∷ qs) ups ends left m = tt
  levels-mono (q ∷ qs) ups (pair r owns) left m = (
    record {
      threshold = λ h. le_trans (delay-mono speed best_effort ups r owns (omega arith)) (m.0.threshold (omega (arith, r.frame)));
      buffer = λ h. le_trans (backlog-mono speed best_effort ups r owns (omega arith)) (m.0.buffer (omega (arith, r.frame)));
    },
    levels-mono qs (pair r ups) owns (omega arith) m.1,
  )

  pub link-mono : (qs : List Queue) {levels levels' : List Aggregate} → Pairs AtMost levels levels'
      → (link_finding speed best_effort qs levels').code ≡ 0
      → (link_finding speed best_effort qs levels).code ≡ 0
  unfolding total
  link-mono qs {levels} {levels'} p e =
      let (rate, m) = link-meets qs levels' e in
      meets-link qs levels (omega (arith, rate-mono p)) (levels-mono qs ends p (omega arith) m)

-- What a link's finding can be: none, 21 with level 0, or 22 or 23 with one of the levels.
module _ (P : Finding → Type 0) (zero : (level : ℕ) → P (record { code = 0; level = level })) where
  or_else-either : (a b : Finding) → P a → P b → P (or_else a b)
  unfolding or_else
  or_else-either a b pa pb = go (eqb a.code 0)
    where
      go : (t : Bool) → P (cond t b a)
      go true = pb
      go false = pa

  abbrev Failing : (level : ℕ) → Type 0
  Failing level = All (λ code. P (record { code = code; level = level })) queue_codes

  level-finds : (speed best_effort : ℕ) (q : Queue) (above : List Aggregate) (own : Aggregate) (below : List Aggregate) (n : ℕ) → Failing n
      → P (record { code = level_code speed best_effort q above own below; level = n })
  unfolding level_code
  level-finds speed best_effort q above own below n f = go (is_empty own) (leb (delay speed best_effort above own below) q.threshold) (leb (backlog speed best_effort above own below) q.buffer)
    where
      go : (e d b : Bool) → P (record { code = cond e 0 (cond d (cond b 0 23) 22); level = n })
      go true d b = zero n
      go false true true = zero n
      go false true false = f.1.0
      go false false b = f.0

  levels-find : (speed best_effort n : ℕ) (above : List Aggregate) (qs : List Queue) (own : List Aggregate)
      → ((i : ℕ) (q : Queue) → get_elem? qs i ≡ some q → Failing (n + i))
      → P (levels_finding speed best_effort n above qs own)
  unfolding levels_finding
  levels-find speed best_effort n above [] own f = zero 0
  levels-find speed best_effort n above (q ∷ qs) [] f = zero 0
  levels-find speed best_effort n above (q ∷ qs) (a ∷ below) f =
      or_else-either _ _ (level-finds speed best_effort q above a below n (subst Failing (omega arith) (f 0 q refl)))
      (levels-find speed best_effort (suc n) (a ∷ above) qs below (λ i r e. subst Failing (omega arith) (f (suc i) r e)))

  pub link-finds : (speed best_effort : ℕ) (qs : List Queue) (levels : List Aggregate) → P (record { code = 21; level = 0 })
      → ((i : ℕ) (q : Queue) → get_elem? qs i ≡ some q → Failing (suc i))
      → P (link_finding speed best_effort qs levels)
  unfolding link_finding rate_code
  link-finds speed best_effort qs levels rate f = or_else-either _ _ (go (within_rate speed (total (λ a. a.rate) levels)))
      (levels-find speed best_effort 1 [] qs levels (λ i q e. subst Failing (omega arith) (f i q e)))
    where
      go : (b : Bool) → P (record { code = cond b 0 21; level = 0 })
      go true = zero 0
      go false = rate
