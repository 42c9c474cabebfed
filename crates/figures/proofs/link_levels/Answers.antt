-- `figures::link_levels` meets its contract: what stands at each index is the figures there.
use Rattle.std.proofs.Common.{rules}
use Rattle.model.specs.Sizes.{levels_most}
use Rattle.units.specs.View.{aggregate_of}
use Rattle.queue_table.specs.View.{entry_at}
use Rattle.figures.specs.View.{figure_at, level_figures}
use Rattle.figures.proofs.LoadLaws.{loaded}
use Rattle.figures.proofs.link_levels.Goals as goal

pub returns : goal.returns
unfolding level_figures
returns c =
    let filled = c.from_fn.ensures.items in
    loaded aggregate_of c.from_fn.result levels_most (λ i. figure_at c.args.figures.now (entry_at c.args.link i)) filled.long (λ i d h. let k = (filled.at i d h).2 in search (rules, k))
