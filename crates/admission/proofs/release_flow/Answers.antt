-- `admission::release_flow` meets its contract: 13 where no slot holds the number, else that slot is emptied.
use Rattle.std.proofs.lemmas.Result.{err_from_is_err_and}
use mathlib.Core.Path.{sym, ◌∙◌}
use Rattle.model.specs.Orders.{release}
use Rattle.causes.specs.declared.Cause.TheVariants.{NumberNotHeld}
use Rattle.admission.proofs.FoundLaws.{lacking, located}
use Rattle.admission.proofs.ConsistentLaws.{stepped-refused}
use Rattle.admission.proofs.ReleaseLaws.{not-held, slot-set, stepped-released}
use Rattle.admission.proofs.release_flow.Goals as goal

pub returns-in_err-held : goal.returns-in_err-held
returns-in_err-held c =
    let refused = err_from_is_err_and c.from_residual.result c.from_residual.ensures.1 in
    let none = lacking _ c.find.result NumberNotHeld _ c.find.ensures (sym c.ok_or.ensures.value ∙ c.in_err-held.was) in
    rw (refused.1, refused.2, none.1) (stepped-refused _ _ _ _ c.requires (release _) NumberNotHeld (not-held _ _ _ _ none.0))

pub take_out-requires-clause-slot_lt_slot_count : goal.take_out-requires-clause-slot_lt_slot_count
take_out-requires-clause-slot_lt_slot_count c =
    let (inside, first) = located _ c.find.result NumberNotHeld _ c.find.ensures (sym c.ok_or.ensures.value ∙ c.in_ok-held.was) in
    (inside, slot-set _ _ _ _ first inside)

pub returns : goal.returns
returns c =
    let (inside, first) = located _ c.find.result NumberNotHeld _ c.find.ensures (sym c.ok_or.ensures.value ∙ c.in_ok-held.was) in
    stepped-released _ _ _ _ first inside c.take_out.ensures.store_after c.take_out.ensures.consistent_arrays_2
