-- `link_check::check_levels` meets its contract. The invariant: the levels before `i` pass, and `above` holds their sums.
use mathlib.Core.Path.{sym}
use native.Mathlib.Omega.{arith}
use Rattle.std.proofs.lemmas.Result.{err_from_is_err_and}
use Rattle.model.specs.WithFlow.{no_flow}
use Rattle.model.proofs.Laws.LinkSteps.{passed_none, passed-all}
use Rattle.units.specs.View.{aggregate_of}
use Rattle.link_check.specs.View.{aggregates_of, queues_of}
use Rattle.link_check.proofs.Laws.{mapped_end}
use Rattle.link_check.proofs.LevelLaws.{level-room, level-over, level-fits}
use Rattle.link_check.proofs.check_levels.Goals as goal

pub loop-i-init : goal.loop-i-init
unfolding no_flow
loop-i-init c = passed_none c.args.speed c.args.besteffort.0 (queues_of c.args.queues) (aggregates_of c.args.levels)

pub check_level-requires-clause-rate_bound : goal.check_level-requires-clause-rate_bound
check_level-requires-clause-rate_bound c =
    omega (arith, level-room c.args.speed c.args.besteffort.0 c.args.queues c.args.levels c.blockings-blocked.result c.loop-i.i c.loop-i.invariant c.blockings-blocked.ensures (omega arith) (omega arith))

pub check_level-requires-clause-burst_bound : goal.check_level-requires-clause-burst_bound
check_level-requires-clause-burst_bound c =
    omega (arith, level-room c.args.speed c.args.besteffort.0 c.args.queues c.args.levels c.blockings-blocked.result c.loop-i.i c.loop-i.invariant c.blockings-blocked.ensures (omega arith) (omega arith))

pub returns-in_err-check_level : goal.returns-in_err-check_level
returns-in_err-check_level c =
    let over = err_from_is_err_and c.from_residual.result c.from_residual.ensures.1 in
    rw (over.1, over.2)
    (level-over c.args.speed c.args.besteffort.0 c.args.queues c.args.levels c.blockings-blocked.result c.loop-i.i c.loop-i.invariant c.blockings-blocked.ensures (omega arith) (omega arith)
    c.in_err-check_level.field-0.0 c.in_err-check_level.ensures)

pub with_flow-above-requires : goal.with_flow-above-requires
with_flow-above-requires c =
    omega (arith, level-room c.args.speed c.args.besteffort.0 c.args.queues c.args.levels c.blockings-blocked.result c.loop-i.i c.loop-i.invariant c.blockings-blocked.ensures (omega arith) (omega arith))

pub loop-i-preserved : goal.loop-i-preserved
loop-i-preserved c =
    level-fits c.args.speed c.args.besteffort.0 c.args.queues c.args.levels c.blockings-blocked.result c.loop-i.i c.loop-i.invariant c.blockings-blocked.ensures (omega arith) (omega arith)
    c.in_ok-check_level.ensures c.with_flow-above.ensures

pub returns : goal.returns
returns c = sym (passed-all c.loop-i.invariant (mapped_end aggregate_of c.args.levels c.loop-i.i (omega arith)))
