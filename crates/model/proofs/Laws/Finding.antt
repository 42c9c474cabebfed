-- The first finding that applies: all before it don't, and there is none exactly when none applies. What holds of each cause.
-- By induction on the list of findings. Assumes nothing.
use Rattle.std.specs.Prelude.{ℕ, ◌≡◌, refl, Bool, cond}
use Rattle.std.proofs.Common.{ap}
use Rattle.std.proofs.Math.Bool.{true, false}
use Rattle.std.proofs.lemmas.Bool.{false≢true}
use mathlib.Core.List.{List, [], ◌∷◌, ◌++◌}
use Rattle.std.proofs.Math.Option.{Option, none, some, some-ne-none, none-ne-some}
use Rattle.model.specs.Words.{All, is_none}
use Rattle.model.specs.Orders.{Hop}
use Rattle.model.specs.Outcomes.{NoneApplies, First}
use Rattle.model.specs.Reference.{Cause, first_cause, whole, at_hop}

pub first-listed : (l : List (Option Cause)) {c : Cause} → first_cause l ≡ some c → First l c
unfolding first_cause
first-listed [] e = absurd (none-ne-some _ e)
first-listed (none ∷ l) e =
    let r = first-listed l e in
    record {
      earlier = none ∷ r.earlier;
      later = r.later;
      listed = ap {B = List (Option Cause)} (λ m. none ∷ m) r.listed;
      passed = (refl, r.passed);
    }
first-listed (some d ∷ l) e =
    record { earlier = []; later = l; listed = ap {B = List (Option Cause)} (λ x. x ∷ l) e; passed = tt }

pub none-applies : (l : List (Option Cause)) → first_cause l ≡ none → NoneApplies l
unfolding first_cause
none-applies [] e = tt
none-applies (none ∷ l) e = (refl, none-applies l e)
none-applies (some c ∷ l) e = absurd (some-ne-none c e)

pub applies-none : (l : List (Option Cause)) → NoneApplies l → first_cause l ≡ none
unfolding first_cause
applies-none [] a = refl
applies-none (none ∷ l) a = applies-none l a.1
applies-none (some c ∷ l) a = absurd (some-ne-none c a.0)

-- Findings that don't apply can be left out.
pub skip-none : (l m : List (Option Cause)) → NoneApplies l → first_cause (l ++ m) ≡ first_cause m
unfolding first_cause
skip-none [] m a = refl
skip-none (none ∷ l) m a = skip-none l m a.1
skip-none (some c ∷ l) m a = absurd (some-ne-none c a.0)

pub is-none : {A : Type 0} (x : Option A) → is_none x ≡ true → x ≡ none
unfolding is_none
is-none none e = refl
is-none (some a) e = absurd (false≢true e)

-- Where a finding applies its cause has the property.
abbrev pub Caused : (Cause → Type 0) → Option Cause → Type 0
Caused P none = Unit {0}
Caused P (some c) = P c

module _ (P : Cause → Type 0) where
  pub whole-caused : (code : ℕ) (b : Bool) → P (record { code = code; link = 0; level = 0 }) → Caused P (whole code b)
  unfolding whole
  whole-caused code true p = p
  whole-caused code false p = tt

  pub hop-caused : (code : ℕ) (test : List Hop → Hop → Bool) (earlier path : List Hop)
      → All (λ h. P (record { code = code; link = h.link; level = h.level })) path
      → Caused P (at_hop code test earlier path)
  unfolding at_hop
  hop-caused code test earlier [] p = tt
  hop-caused code test earlier (h ∷ path) p = go (test earlier h) (hop-caused code test (h ∷ earlier) path p.1)
    where
      go : (b : Bool) → Caused P (at_hop code test (h ∷ earlier) path)
          → Caused P (cond b (some (record { code = code; link = h.link; level = h.level })) (at_hop code test (h ∷ earlier) path))
      go true r = p.0
      go false r = r

  pub first-caused : (l : List (Option Cause)) → All (Caused P) l → Caused P (first_cause l)
  unfolding first_cause
  first-caused [] a = tt
  first-caused (none ∷ l) a = first-caused l a.1
  first-caused (some c ∷ l) a = a.0

-- Whether a test finds its cause.
pub whole-none : (code : ℕ) (b : Bool) → whole code b ≡ none → b ≡ false
unfolding whole
whole-none code true e = absurd (some-ne-none _ e)
whole-none code false e = refl

pub none-whole : (code : ℕ) (b : Bool) → b ≡ false → whole code b ≡ none
unfolding whole
none-whole code b e = rw e
