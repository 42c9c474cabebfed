-- `admission::apply` meets its contract: 10 and 11 of a line that gives no order.
use Rattle.model.specs.Orders.{rejected}
use Rattle.causes.specs.declared.Cause.TheVariants.{Malformed, OutOfRange}
use Rattle.admission.proofs.StepLaws.{line-cause}
use Rattle.admission.proofs.ConsistentLaws.{stepped-refused}
use Rattle.admission.proofs.apply.Goals as goal

pub returns-in-Err-Malformed : goal.returns-in-Err-Malformed
returns-in-Err-Malformed c =
    let is = c.in-Err-Malformed.is in
    rw (is, rw is at c.in-Err-Malformed.field-0-is) (stepped-refused _ _ _ _ c.requires.consistent_arrays (rejected 10) Malformed (line-cause _ 10))

pub returns-in-Err-OutOfRange : goal.returns-in-Err-OutOfRange
returns-in-Err-OutOfRange c =
    let is = c.in-Err-OutOfRange.is in
    rw (is, rw is at c.in-Err-OutOfRange.field-0-is) (stepped-refused _ _ _ _ c.requires.consistent_arrays (rejected 11) OutOfRange (line-cause _ 11))
