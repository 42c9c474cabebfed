-- `flow_store::move_starts` meets its contract.
use Rattle.std.proofs.Common.{arith, refl}
use Rattle.flow_store.proofs.StartLaws.{moved-first, moved-next, moved_all}
use Rattle.flow_store.proofs.move_starts.Goals as goal

pub loop-i-init : goal.loop-i-init
loop-i-init c = moved-first c.args.from c.args.by c.args.store.now c.requires.0

pub loop-i-preserved : goal.loop-i-preserved
loop-i-preserved c =
    moved-next c.args.from c.args.by c.args.store.now c.loop-i.invariant (omega (arith, c.loop-i.auto)) c.requires.1 refl

pub returns : goal.returns
returns c =
    moved_all c.args.from c.args.by c.args.store.now c.loop-i.invariant (omega (arith, c.loop-i.auto))
