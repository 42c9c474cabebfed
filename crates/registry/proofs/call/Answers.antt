-- `registry::call` meets its contract: the call is done on the registry's arrays.
use Rattle.orders.specs.View.{kind_of}
use Rattle.registry.proofs.CallLaws.{performs}
use Rattle.registry.proofs.call.Goals as goal

pub returns : goal.returns
returns c = performs c.args.registry (kind_of c.args.kind) c.args.bytes.now c.call_arrays-answer.result _ _ _ c.call_arrays-answer.ensures
