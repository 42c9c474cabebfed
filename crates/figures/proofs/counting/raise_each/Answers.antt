-- `figures::counting::raise_each` meets its contract. The invariant: the figures so far, raised by what the hops left have, are the whole.
use native.Mathlib.Omega.{arith}
use Rattle.figures.proofs.RaiseLaws.{raising-max, raising-all}
use Rattle.figures.proofs.counting.raise_each.Goals as goal

pub loop-entry-preserved : goal.loop-entry-preserved
loop-entry-preserved c =
    let args = c.args in
    raising-max args.frame.0 args.entries.now args.figures.now c.loop-entry.invariant c.loop-entry-test.true c.frame_index-at.ensures (omega (arith, c.max.ensures))

pub returns : goal.returns
returns c = raising-all _ _ _ c.loop-entry.invariant c.loop-entry-test.false
