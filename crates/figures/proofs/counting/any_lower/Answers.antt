-- `figures::counting::any_lower` meets its contract. The invariant: the hops so far raise nothing.
use native.Mathlib.Omega.{arith}
use Rattle.figures.proofs.RaiseLaws.{raising-stays, raising-all}
use Rattle.figures.proofs.counting.any_lower.Goals as goal

pub loop-entry-preserved : goal.loop-entry-preserved
loop-entry-preserved c =
    let args = c.args in
    raising-stays args.frame.0 args.entries.now args.figures.now c.loop-entry.invariant c.loop-entry-test.true c.frame_index.ensures (omega (arith, c.if-figures-frame_index.false))

pub returns : goal.returns
returns c = λ e. raising-all _ _ _ c.loop-entry.invariant c.loop-entry-test.false
