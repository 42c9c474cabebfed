-- `figures::counting::raise_each` meets its contract. The invariant: the figures so far, raised by what the hops left have, are the whole.
use Rattle.figures.proofs.RaiseLaws.{Raising}
use Rattle.figures.proofs.counting.raise_each.Given as goal

abbrev pub invariant-loop-entry : goal.invariant-loop-entry
invariant-loop-entry l = Raising l.frame.0 l.entries l.initial.figures l.figures l.entry-index
