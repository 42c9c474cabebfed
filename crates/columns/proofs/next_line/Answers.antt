-- `columns::next_line` meets its contract. The invariant: the bytes from `at` to `i` hold no LF, so they stand before the lines from `i` on.
use mathlib.Core.Path.{◌∙◌}
use native.Mathlib.Omega.{arith}
use Rattle.model.proofs.Laws.Columns.{line-ended, line-unended}
use Rattle.columns.proofs.LineLaws.{line_on}
use Rattle.columns.proofs.next_line.Goals as goal

pub returns-then-text-i-eq-LF : goal.returns-then-text-i-eq-LF
returns-then-text-i-eq-LF c =
    let args = c.args in
    let at = c.loop-i in
    record {
      same = at.invariant.same ∙ line-ended args.text.now args.at at.i (omega arith) c.if-text-i-eq-LF.true;
      within = (at.invariant.on, omega arith);
    }

pub loop-i-preserved : goal.loop-i-preserved
loop-i-preserved c =
    let args = c.args in
    let at = c.loop-i in
    line_on args.text.now args.at at.i at.invariant (omega arith) c.if-text-i-eq-LF.false

pub returns : goal.returns
returns c =
    let at = c.loop-i in
    record { same = at.invariant.same ∙ line-unended c.args.text.now c.args.at at.i (omega (arith, c.requires)) (omega arith); within = tt }

pub loop-i-init : goal.loop-i-init
loop-i-init c = c.skip_blocks-i.ensures
