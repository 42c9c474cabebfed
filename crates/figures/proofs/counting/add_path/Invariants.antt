-- `figures::counting::add_path` meets its contract. The invariant: what the hops left add and the figures so far make the whole.
use Rattle.units.specs.View.{aggregate_of}
use Rattle.figures.proofs.AddLaws.{Adding}
use Rattle.figures.proofs.counting.add_path.Given as goal

abbrev pub invariant-loop-entry : goal.invariant-loop-entry
invariant-loop-entry l = Adding (aggregate_of l.share) l.table l.entries l.initial.figures l.figures l.sum.0 l.entry-index
