-- `batch::answer` meets its contract: the table is read first, then the orders are judged and answered.
use Rattle.std.proofs.Common.{◌≡◌, ℕ, ap, ◌∙◌, rules}
use Rattle.std.specs.Prelude.{Result, Err}
use Rattle.batch.specs.declared.Refusal.{Refusal}
use Rattle.batch.specs.declared.Refusal.TheVariants.{Table}
use Rattle.batch.specs.View.{batch_of}
use Rattle.batch.proofs.JudgeLaws.{empty-registry, from-table, refused-table, as-numbers}
use Rattle.batch.proofs.answer.Goals as goal

pub returns-in_err-read_into-clause-done : goal.returns-in_err-read_into-clause-done
returns-in_err-read_into-clause-done c =
    let args = c.args in
    let refused : c.from_residual.result ≡ Err (Table c.in_err-read_into.field-0.0) = search rules in
    ap (λ (r : Result ℕ Refusal). batch_of r args.answers.now) refused ∙ refused-table args.table.now c.read_into.new.table args.orders.now args.answers.now _ c.in_err-read_into.ensures

pub judge_orders-requires : goal.judge_orders-requires
judge_orders-requires c = empty-registry _ _ c.in_ok-read_into.ensures

pub returns-clause-done : goal.returns-clause-done
returns-clause-done c = c.judge_orders.ensures.done ∙ from-table _ _ c.in_ok-read_into.ensures c.args.orders.now c.args.answers.now

pub returns-in_err-read_into-clause-batched : goal.returns-in_err-read_into-clause-batched
returns-in_err-read_into-clause-batched c = as-numbers c.from_residual.result c.args.answers.now ∙ returns-in_err-read_into-clause-done c

pub returns-clause-batched : goal.returns-clause-batched
returns-clause-batched c = as-numbers c.judge_orders.result c.judge_orders.new.answers ∙ returns-clause-done c
