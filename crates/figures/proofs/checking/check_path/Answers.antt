-- `figures::checking::check_path` meets its contract. The invariant: what the hops left say is what the whole path says.
use mathlib.Core.Path.{refl}
use Rattle.std.proofs.lemmas.Result.{err_from_is_err_and}
use Rattle.figures.proofs.EntryLaws.{hop-at}
use Rattle.figures.proofs.CheckLaws.{checking-none, checking-found, checking-next, checking-all}
use Rattle.figures.proofs.checking.check_path.Goals as goal

pub loop-entry-init : goal.loop-entry-init
loop-entry-init g c = checking-none _ _ _ _

pub returns-in_err-check_hop : goal.returns-in_err-check_hop
returns-in_err-check_hop g c =
    let cause = err_from_is_err_and c.from_residual.result c.from_residual.ensures.1 in
    rw (cause.1, cause.2)
    (checking-found _ _ _ _ c.loop-entry.invariant c.loop-entry-test.true c.own_at.ensures c.in_err-check_hop.ensures c.in_err-check_hop.field-0.0 refl)

pub loop-entry-preserved : goal.loop-entry-preserved
loop-entry-preserved g c =
    let hop = hop-at c.requires.hops c.loop-entry.invariant.sum_below c.loop-entry-test.true in
    checking-next _ _ _ _ c.loop-entry.invariant c.loop-entry-test.true c.own_at.ensures c.in_ok-check_hop.ensures refl hop.1 c.sum_past-sum.ensures

pub returns : goal.returns
returns g c = checking-all _ _ _ _ c.loop-entry.invariant c.loop-entry-test.false
