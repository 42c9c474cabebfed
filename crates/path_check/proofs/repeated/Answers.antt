-- `path_check::repeated` meets its contract. The invariant: hop i is next, and `met` has the links of the hops before it.
use native.Mathlib.Omega.{arith}
use Rattle.path_check.proofs.MetLaws.{searched-first, searched-found, searched-end, searched-next}
use Rattle.path_check.proofs.repeated.Goals as goal

pub loop-i-init : goal.loop-i-init
loop-i-init c = searched-first _

pub returns-then-met-link-eq1-clause-entries_value : goal.returns-then-met-link-eq1-clause-entries_value
returns-then-met-link-eq1-clause-entries_value c =
    searched-found c.loop-i.invariant (omega arith) (rw c.link_of-link.ensures at c.if-met-link-eq1.true)

pub loop-i-preserved : goal.loop-i-preserved
loop-i-preserved c =
    let link = c.link_of-link.ensures in
    rw link (searched-next c.loop-i.invariant c.requires (omega arith) (rw link at c.if-met-link-eq1.false))

pub returns-clause-entries_value : goal.returns-clause-entries_value
returns-clause-entries_value c = searched-end c.loop-i.invariant (omega arith)
