-- Document 01, "The book": one level's figures with a flow counted in are again such figures.
use Rattle.std.specs.Prelude.{◌+◌, max}
use Rattle.model.specs.Formula.{Aggregate}

-- The aggregate of a level that carries no flow.
unfoldable pub no_flow : Aggregate
no_flow = record { rate = 0; burst = 0; frame = 0 }

-- Two aggregates of one queue taken together, as one with the share of a flow more: sums of rates and of bursts, the largest frame.
unfoldable pub together : Aggregate → Aggregate → Aggregate
together a b = record { rate = a.rate + b.rate; burst = a.burst + b.burst; frame = max a.frame b.frame }
