-- `figures::checking::check_path` meets its contract. The invariant: what the hops left say is what the whole path says.
use Rattle.figures.proofs.CheckLaws.{Checking}
use Rattle.figures.proofs.checking.check_path.Given as goal

abbrev pub invariant-loop-entry : goal.invariant-loop-entry
invariant-loop-entry g l = Checking (goal.F-post g l.own_at) l.table l.figures l.entries l.sum.0 l.entry-index
