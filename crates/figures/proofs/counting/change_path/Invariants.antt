-- `figures::counting::change_path` meets its contract. The invariant: what the hops left add by the old share is still in the figures.
use Rattle.units.specs.View.{aggregate_of}
use Rattle.figures.proofs.ChangeLaws.{Changing}
use Rattle.figures.proofs.counting.change_path.Given as goal

abbrev pub invariant-loop-entry : goal.invariant-loop-entry
invariant-loop-entry l = Changing (aggregate_of l.was) (aggregate_of l.share) l.table l.entries l.initial.figures l.figures l.sum.0 l.entry-index
