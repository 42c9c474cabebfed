-- `figures::checking::link_queues` meets its contract: what stands at each index is the queue there.
use Rattle.std.proofs.Common.{rules}
use Rattle.model.specs.Sizes.{levels_most}
use Rattle.link_check.specs.View.{queue_of, Narrow}
use Rattle.queue_table.specs.View.{queue_at}
use Rattle.figures.proofs.LoadLaws.{loaded, loaded_all}
use Rattle.figures.proofs.checking.link_queues.Goals as goal

pub returns : goal.returns
unfolding queue_at
returns c =
    let filled = c.from_fn.ensures.items in (
      loaded queue_of c.from_fn.result levels_most (queue_at c.args.table.now c.args.link) filled.long (λ i d h. let k = (filled.at i d h).2 in search (rules, k)),
      loaded_all Narrow c.from_fn.result levels_most filled.long (λ i d h. let k = (filled.at i d h).2 in search (rules, k)),
    )
