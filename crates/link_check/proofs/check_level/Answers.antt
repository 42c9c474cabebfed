-- `link_check::check_level` meets its contract: its tests are the definition's, with the sums above as one level and what may block as the best-effort frame.
use mathlib.Core.Path.{sym, ◌∙◌}
use native.Mathlib.Nat.{add-zero}
use borrow.Author.Tests.{ne_eqb}
use Rattle.model.specs.Total.{total}
use Rattle.model.specs.Formula.{delay, backlog, interference, level_residual}
use Rattle.model.specs.LinkCheck.{is_empty, level_code, or_else}
use Rattle.model.specs.Laws.LinkSteps.{level_finding}
use Rattle.model.proofs.Laws.LinkSteps.{blocking-none}
use Rattle.link_check.proofs.check_level.Goals as goal

pub returns-then-not-within_delay : goal.returns-then-not-within_delay
unfolding level_finding level_code is_empty or_else delay backlog interference level_residual total
returns-then-not-within_delay c =
    let late = sym (rw c.residual_rate-res.ensures at c.within_delay.ensures) ∙ c.if-not-within_delay.true in
    simp (ne_eqb _ 0 c.if-own-eq0.false, add-zero, blocking-none, late)

pub returns-then-not-within_backlog : goal.returns-then-not-within_backlog
unfolding level_finding level_code is_empty or_else delay backlog interference level_residual total
returns-then-not-within_backlog c =
    let in_time = sym (rw c.residual_rate-res.ensures at c.within_delay.ensures) ∙ c.if-not-within_delay.false in
    let full = sym (rw c.residual_rate-res.ensures at c.within_backlog.ensures) ∙ c.if-not-within_backlog.true in
    simp (ne_eqb _ 0 c.if-own-eq0.false, add-zero, blocking-none, in_time, full)

pub returns : goal.returns
unfolding level_finding level_code is_empty or_else delay backlog interference level_residual total
returns c =
    let in_time = sym (rw c.residual_rate-res.ensures at c.within_delay.ensures) ∙ c.if-not-within_delay.false in
    let fits = sym (rw c.residual_rate-res.ensures at c.within_backlog.ensures) ∙ c.if-not-within_backlog.false in
    simp (ne_eqb _ 0 c.if-own-eq0.false, add-zero, blocking-none, in_time, fits)
