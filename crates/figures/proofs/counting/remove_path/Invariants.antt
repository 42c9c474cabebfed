-- `figures::counting::remove_path` meets its contract. The invariant: the figures so far are those of the others and of what the hops left add.
use Rattle.units.specs.View.{aggregate_of}
use Rattle.figures.proofs.RemoveLaws.{Removing}
use Rattle.figures.proofs.counting.remove_path.Given as goal

abbrev pub invariant-loop-entry : goal.invariant-loop-entry
invariant-loop-entry l = Removing (aggregate_of l.share) l.table l.entries l.initial.figures l.figures l.sum.0 l.entry-index l.again
