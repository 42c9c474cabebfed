-- `figures::counting::any_lower` meets its contract. The invariant: the hops so far raise nothing.
use Rattle.figures.proofs.RaiseLaws.{Raising}
use Rattle.figures.proofs.counting.any_lower.Given as goal

abbrev pub invariant-loop-entry : goal.invariant-loop-entry
invariant-loop-entry l = Raising l.frame.0 l.entries l.figures l.figures l.entry-index
