-- `link_check::blockings` meets its contract. The invariant: the entries from `i` on are right, and `largest` is what blocks above level `i`.
use mathlib.Core.Path.{◌≡◌}
use lib.ListN.{length, drop}
use Rattle.model.specs.Sizes.{levels_most}
use Rattle.model.specs.Formula.{blocking}
use Rattle.model.specs.Laws.LinkSteps.{blockings}
use Rattle.link_check.specs.View.{aggregates_of, bytes_of}
use Rattle.link_check.proofs.blockings.Given as goal

abbrev pub invariant-loop-i : goal.invariant-loop-i
invariant-loop-i l =
    (length l.blocked ≡ levels_most)
    × (l.largest.0 ≡ blocking l.initial.largest.0 (drop l.i (aggregates_of l.fn.levels)))
    × (bytes_of (drop l.i l.blocked) ≡ blockings l.initial.largest.0 (drop l.i (aggregates_of l.fn.levels)))
