-- `path_check::repeated` meets its contract. The invariant: hop i is next, and `met` has the links of the hops before it.
use Rattle.path_check.proofs.MetLaws.{Searched}
use Rattle.path_check.proofs.repeated.Given as goal

abbrev pub invariant-loop-i : goal.invariant-loop-i
invariant-loop-i l = Searched l.entries l.i l.met
