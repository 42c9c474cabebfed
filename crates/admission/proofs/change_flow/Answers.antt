-- `admission::change_flow` meets its contract: 13 where no slot holds the number, else the flow there is changed.
use Rattle.std.proofs.lemmas.Result.{err_from_is_err_and}
use mathlib.Core.Path.{sym, ◌∙◌}
use Rattle.model.specs.Orders.{change}
use Rattle.causes.specs.declared.Cause.TheVariants.{NumberNotHeld}
use Rattle.orders.specs.View.{change_of}
use Rattle.admission.proofs.FoundLaws.{lacking}
use Rattle.admission.proofs.ConsistentLaws.{stepped-refused}
use Rattle.admission.proofs.ChangeLaws.{not-held}
use Rattle.admission.proofs.change_flow.Goals as goal

pub returns-in_err-held : goal.returns-in_err-held
returns-in_err-held c =
    let refused = err_from_is_err_and c.from_residual.result c.from_residual.ensures.1 in
    let none = lacking _ c.find.result NumberNotHeld _ c.find.ensures (sym c.ok_or.ensures.value ∙ c.in_err-held.was) in
    rw (refused.1, refused.2, none.1) (stepped-refused _ _ _ _ c.requires.consistent_arrays (change _) NumberNotHeld (not-held _ _ _ (change_of c.args.given) none.0))
