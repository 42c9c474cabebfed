-- `link_check::check_link` meets its contract: the rate rule decides between 21 and the levels' finding.
use borrow.Author.Rules.{rules}
use Prim.Native.Nat.{◌*◌}
use mathlib.Core.Path.{sym, ap, ◌∙◌}
use borrow.Author.Tests.{ltb-true}
use Rattle.model.specs.Total.{total}
use Rattle.model.specs.Formula.{within_rate}
use Rattle.model.specs.Reference.{link_cause}
use Rattle.model.specs.LinkCheck.{or_else, rate_code, link_finding}
use Rattle.link_check.specs.View.{aggregates_of}
use Rattle.link_check.proofs.FindingLaws.{on_link-mapped}
use Rattle.link_check.proofs.check_link.Goals as goal

pub check_levels-requires-clause-levels_bound : goal.check_levels-requires-clause-levels_bound
unfolding within_rate
check_levels-requires-clause-levels_bound c =
    ltb-true (total (λ a. a.rate) (aggregates_of c.args.levels)) (1000 * c.args.speed) (sym (rw c.rate_sum.ensures at c.within_rate.ensures) ∙ c.if-within_rate.true)

pub returns-then-within_rate-clause-finding_value : goal.returns-then-within_rate-clause-finding_value
unfolding link_finding rate_code or_else
returns-then-within_rate-clause-finding_value c =
    on_link-mapped c.args.link c.check_levels.result c.map_err-finding.result (λ over cause made. search rules) c.map_err-finding.ensures.cases
    ∙ ap (link_cause c.args.link) (c.check_levels.ensures ∙ simp (sym (rw c.rate_sum.ensures at c.within_rate.ensures) ∙ c.if-within_rate.true))

pub returns-else-within_rate-clause-finding_value : goal.returns-else-within_rate-clause-finding_value
unfolding link_finding rate_code or_else link_cause
returns-else-within_rate-clause-finding_value c = simp (sym (rw c.rate_sum.ensures at c.within_rate.ensures) ∙ c.if-within_rate.false)
