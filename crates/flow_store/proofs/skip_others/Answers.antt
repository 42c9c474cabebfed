-- `flow_store::skip_others` meets its contract. The invariant: no slot before the next block has the number.
use Rattle.std.proofs.Common.{arith}
use Rattle.flow_store.proofs.ScanLaws.{others-join}
use Rattle.flow_store.proofs.skip_others.Goals as goal

pub block_names-requires : goal.block_names-requires
block_names-requires c = (c.requires, omega (arith, c.loop-from.invariant.1))

pub loop-from-preserved : goal.loop-from-preserved
loop-from-preserved c = (
  omega (arith, c.loop-from.invariant.1),
  omega (arith, c.loop-from.invariant.1),
  others-join c.args.number c.args.store.now c.loop-from.invariant.2 (c.block_names.ensures c.if-block_names.false),
)
