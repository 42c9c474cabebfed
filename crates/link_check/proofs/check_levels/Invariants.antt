-- `link_check::check_levels` meets its contract. The invariant: the levels before `i` pass, and `above` holds their sums.
use Rattle.model.proofs.Laws.LinkSteps.{Passed}
use Rattle.units.specs.View.{aggregate_of}
use Rattle.link_check.specs.View.{aggregates_of, queues_of}
use Rattle.link_check.proofs.check_levels.Given as goal

abbrev pub invariant-loop-i : goal.invariant-loop-i
invariant-loop-i l = Passed l.speed l.fn.besteffort.0 (queues_of l.queues) (aggregates_of l.levels) l.i (aggregate_of l.above)
