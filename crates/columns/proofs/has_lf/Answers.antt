-- `columns::has_lf` meets its contract. The invariant: the flag says whether an LF stands in the bytes passed.
use mathlib.Core.Path.{◌∙◌, ap}
use native.Mathlib.Omega.{arith}
use Rattle.columns.specs.View.{lf_within}
use Rattle.columns.proofs.LineLaws.{lf-none, lf-here, lf-other}
use Rattle.columns.proofs.has_lf.Goals as goal
use Rattle.columns.proofs.has_lf.Goals.{then-text-at-eq-LF, else-text-at-eq-LF}

pub loop-i-init : goal.loop-i-init
loop-i-init c = (omega arith, lf-none c.args.text.now c.args.at)

pub loop-i-preserved : goal.loop-i-preserved
loop-i-preserved c =
    let args = c.args in
    let at = c.loop-i in (
      omega arith,
      elim c.if-text-at-eq-LF.branch [
        | then-text-at-eq-LF w ↦ w.found-is ∙ lf-here args.text.now args.at at.i w.if-text-at-eq-LF.true
        | else-text-at-eq-LF w ↦ w.found-is ∙ at.invariant.1 ∙ lf-other args.text.now args.at at.i w.if-text-at-eq-LF.false
      ],
    )

pub returns : goal.returns
returns c =
    let args = c.args in
    let at = c.loop-i in
    at.invariant.1 ∙ ap (lf_within args.text.now args.at) (omega (arith, at.invariant.0, c.loop-i-test.false))
