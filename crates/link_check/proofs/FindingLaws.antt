-- A finding by its case: every one but `Ok` has a code, and the cause that names the link is the finding's.
-- Assumes nothing.
use Rattle.std.proofs.Common.{◌≡◌, ℕ, ap, Result, Ok, Err, arith}
use Rattle.std.proofs.Math.Option.{some}
use Rattle.std.specs.Prelude.{MatchResult, IsErrAnd}
use Rattle.model.specs.Reference.{link_cause}
use Rattle.causes.specs.declared.Cause.{Cause}
use Rattle.causes.specs.View.{cause_of, finding_of}
use Rattle.link_check.specs.declared.OverBound.{OverBound}
use Rattle.link_check.specs.declared.OverBound.TheVariants.{Delay, Backlog}
use Rattle.link_check.specs.View.{level_finding_of}

pub faulty : (over : OverBound) → (level_finding_of (Err over)).code ≡ 0 → ⊥
faulty (Delay n) e = omega arith
faulty (Backlog n) e = omega arith

-- What `map_err` makes of the finding, where the cause of each bound is the link's.
pub on_link-mapped : (link : ℕ) {P : OverBound → Cause → Type 0} (found : Result (Unit {0}) OverBound) (r : Result (Unit {0}) Cause)
    → ((over : OverBound) (cause : Cause) → P over cause → some (cause_of cause) ≡ link_cause link (level_finding_of (Err over)))
    → MatchResult found (λ x. r ≡ Ok x) (λ over. IsErrAnd r (P over))
    → finding_of r ≡ link_cause link (level_finding_of found)
unfolding link_cause
on_link-mapped link (Ok x) r told e = ap finding_of e
on_link-mapped link (Err over) (Err cause) told p = told over cause p
on_link-mapped link (Err over) (Ok x) told p = absurd p
