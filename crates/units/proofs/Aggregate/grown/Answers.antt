-- `units::Aggregate::grown` meets its contract: only the burst changes, by its formula.
use Rattle.units.proofs.Aggregate.grown.Goals as goal

pub returns : goal.returns
returns c = rw c.burst_at_hop.ensures
