-- `batch::carry_out` meets its contract: the order that the line says is carried out; an unended line is 10.
use Rattle.std.proofs.Common.{arith, sym, subst, rules}
use Rattle.std.specs.Prelude.{Err}
use Rattle.model.specs.Columns.{ended, unended}
use Rattle.model.specs.Orders as model
use Rattle.model.proofs.Laws.Order.{Ranged, line-ranged}
use Rattle.causes.specs.declared.Cause.TheVariants.{Malformed}
use Rattle.admission.specs.View.{state_of}
use Rattle.admission.proofs.StepLaws.{line-cause}
use Rattle.admission.proofs.ConsistentLaws.{stepped-refused, stepped_same}
use Rattle.admission.proofs.ReadLaws.{order-read}
use Rattle.columns.proofs.LineLaws.{missed}
use Rattle.batch.proofs.AnswerLaws.{line-done}
use Rattle.batch.proofs.carry_out.Goals as goal

pub returns-in_err-bytes : goal.returns-in_err-bytes
unfolding model.order_line
returns-in_err-bytes c =
    let args = c.args in
    let (line, cause) = missed args.line c.in_err-bytes.field-0.0 Malformed c.in_err-bytes.ensures.value in
    let done =
    line-done args.table.now args.bits.now args.store.now _ _ _ (Err Malformed) unended
    (stepped-refused _ _ _ _ c.requires (model.rejected 10) Malformed (line-cause (state_of args.table.now args.bits.now args.store.now) 10)) in
    rw line (grind (arith, cause, done))

pub apply-requires-clause-order_read : goal.apply-requires-clause-order_read
apply-requires-clause-order_read c =
    let line = c.read_order-order in
    order-read line.result.hops line.result.order (search rules) line.ensures.hops_fit
    (subst (λ (o : model.Order). Ranged o) (sym line.ensures.result_value) (line-ranged c.in_ok-bytes.bytes.now))

pub returns : goal.returns
unfolding model.order_line
returns c =
    rw c.in_ok-bytes.ensures.ok_part
    (line-done _ _ _ _ _ _ c.apply.result (ended c.in_ok-bytes.bytes.now) (stepped_same c.read_order-order.ensures.result_value c.apply.ensures))
