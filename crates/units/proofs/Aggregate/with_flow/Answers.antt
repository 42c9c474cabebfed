-- `units::Aggregate::with_flow` meets its contract: the code is the definition.
use Rattle.model.specs.WithFlow.{together}
use Rattle.units.proofs.Aggregate.with_flow.Goals as goal

pub returns : goal.returns
unfolding together
returns c = rw c.larger.ensures
