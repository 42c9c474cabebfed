-- An aggregate in the terms of the model.
use Rattle.std.specs.Prelude.{◌≤◌}
use Rattle.model.specs.Formula as model
use Rattle.units.specs.declared.Aggregate.{Aggregate}

abbrev pub aggregate_of : Aggregate → model.Aggregate
aggregate_of a = record { rate = a.rate.0; burst = a.burst.0; frame = a.frame.0 }

-- A flow's share at its source is at most what an order line can give.
abbrev pub AtSource : model.Aggregate → Type 0
AtSource a = (a.rate ≤ 10000000) × (a.burst ≤ 1000000) × (a.frame ≤ 1542)
