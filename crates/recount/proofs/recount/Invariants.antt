-- `recount::recount` meets its contract. The invariant: the figures are those of the slots from `slot` on.
use Rattle.recount.specs.View.{Counted}
use Rattle.recount.proofs.recount.Given as goal

abbrev pub invariant-loop-slot : goal.invariant-loop-slot
invariant-loop-slot l = Counted l.table l.bits l.store l.figures l.slot
