-- `flow_store::store_flow` meets its contract: its stores are the definition's, one after the other.
use Rattle.std.proofs.Common.{refl}
use Rattle.flow_store.specs.View.{flow_stored}
use Rattle.flow_store.proofs.store_flow.Goals as goal

pub returns : goal.returns
unfolding flow_stored
returns c = refl
