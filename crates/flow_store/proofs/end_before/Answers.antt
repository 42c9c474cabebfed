-- `flow_store::end_before` meets its contract: past the first slot, the slot before has a start and a hop count.
use Rattle.flow_store.specs.View.{end_before}
use Rattle.flow_store.proofs.StartLaws.{end-past}
use Rattle.flow_store.proofs.end_before.Goals as goal

pub returns-then-slot-eq0 : goal.returns-then-slot-eq0
unfolding end_before
returns-then-slot-eq0 c = rw c.if-slot-eq0.true

pub returns : goal.returns
returns c =
    let args = c.args in
    rw (c.start_at.ensures.0, c.hops_at.ensures.0) (end-past args.store.now args.slot c.if-slot-eq0.false)
