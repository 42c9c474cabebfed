-- `registry::call_arrays` meets its contract: what was read can be carried out.
use borrow.Author.Rules.{rules, length_unmapped}
use mathlib.Core.Path.{◌≡◌, sym, subst}
use lib.ListN.{length}
use Rattle.model.specs.Columns.{lines}
use Rattle.model.specs.Orders.{Order, kind_number}
use Rattle.model.proofs.Laws.Order.{Ranged, call-ranged}
use Rattle.model.specs.Sizes.{hops_most}
use Rattle.orders.specs.View.{kind_of}
use Rattle.admission.proofs.ReadLaws.{order-read}
use Rattle.registry.proofs.call_arrays.Goals as goal

pub apply-requires-clause-order_read : goal.apply-requires-clause-order_read
apply-requires-clause-order_read c =
    let read = c.read_call-line in
    let long : length read.result.hops ≡ hops_most = search (rules, length_unmapped) in
    order-read read.result.hops read.result.order long read.ensures.hops_fit
    (subst (λ (o : Order). Ranged o) (sym read.ensures.result_value) (call-ranged (kind_number (kind_of c.args.kind)) (lines c.args.bytes.now)))
