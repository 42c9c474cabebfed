-- `batch::count_lines` meets its contract.
use Rattle.std.proofs.Common.{◌≡◌, ℕ, suc, List, count_by, length, sym, ap, ◌∙◌, arith, rules}
use Rattle.std.specs.Slice.Iter.{chunks_rest}
use Rattle.model.specs.Columns.{lines}
use Rattle.model.proofs.Laws.Columns.{lines-nothing}
use Rattle.batch.specs.View.{is_lf}
use Rattle.batch.proofs.CountLaws.{lines-counted}
use Rattle.batch.proofs.count_lines.Goals as goal

pub returns-in_default : goal.returns-in_default
returns-in_default c = sym (ap length (lines-nothing c.args.text.now 0 (omega (arith, c.in_default.ensures.cases))))

pub loop-block-init : goal.loop-block-init
loop-block-init c =
    let (whole, long) = c.in-Some.ensures.cases in
    let all : suc (count_by is_lf c.in-Some.before.now) ≡ length (lines c.args.text.now) = sym (lines-counted c.in-Some.before.now c.in-Some.field-0-0.now) ∙ ap (λ (t : List ℕ). length (lines t)) (sym whole) in
    let same : chunks_rest c.into_iter-block-iterator.result ≡ c.in-Some.before.now = search rules in
    record {
      size = search rules;
      most = omega (arith, ap length same);
      counted = rw same (omega (arith, all));
    }
