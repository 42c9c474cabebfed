-- `batch::judge_orders` meets its contract: its tests are the model's.
use mathlib.Core.Path.{sym, ◌∙◌}
use native.Mathlib.Omega.{arith}
use Rattle.model.specs.Batch as model
use Rattle.queue_table.specs.View.{table_of}
use Rattle.admission.specs.View.{state_of}
use Rattle.batch.specs.View.{no_bits, no_flows}
use Rattle.batch.proofs.JudgeLaws.{judged-long, judged-many, judged-short, judged-done}
use Rattle.batch.proofs.judge_orders.Goals as goal

pub returns-then-orders-gt-ORDER_BYTES-clause-done : goal.returns-then-orders-gt-ORDER_BYTES-clause-done
returns-then-orders-gt-ORDER_BYTES-clause-done c =
    let t = table_of c.args.table.now in
    let s = state_of c.args.table.now no_bits no_flows in
    let orders = c.args.orders.now in
    let area = c.args.answers.now in
    sym (judged-long t s orders area c.if-orders-gt-ORDER_BYTES.true)

pub returns-then-count-gt-ORDER_LINES-clause-done : goal.returns-then-count-gt-ORDER_LINES-clause-done
returns-then-count-gt-ORDER_LINES-clause-done c =
    let t = table_of c.args.table.now in
    let s = state_of c.args.table.now no_bits no_flows in
    let orders = c.args.orders.now in
    let area = c.args.answers.now in
    let counted = c.count_lines-count.ensures in
    sym (judged-many t s orders area c.if-orders-gt-ORDER_BYTES.false (omega (arith, counted, c.if-count-gt-ORDER_LINES.true)))

pub returns-then-answers-count-clause-done : goal.returns-then-answers-count-clause-done
returns-then-answers-count-clause-done c =
    let t = table_of c.args.table.now in
    let s = state_of c.args.table.now no_bits no_flows in
    let orders = c.args.orders.now in
    let area = c.args.answers.now in
    let counted = c.count_lines-count.ensures in
    sym (judged-short t s orders area c.if-orders-gt-ORDER_BYTES.false (omega (arith, counted, c.if-count-gt-ORDER_LINES.false)) (omega (arith, counted, c.if-answers-count.true)))

pub returns-clause-done : goal.returns-clause-done
unfolding model.done_batch
returns-clause-done c =
    let t = table_of c.args.table.now in
    let s = state_of c.args.table.now no_bits no_flows in
    let orders = c.args.orders.now in
    let area = c.args.answers.now in
    let counted = c.count_lines-count.ensures in
    let ran = c.run.ensures in
    (λ i. record { code = 0; line = counted i; area = ran i })
    ∙ sym (judged-done t s orders area c.if-orders-gt-ORDER_BYTES.false (omega (arith, counted, c.if-count-gt-ORDER_LINES.false)) (omega (arith, counted, c.if-answers-count.false)))
