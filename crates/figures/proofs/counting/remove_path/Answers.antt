-- `figures::counting::remove_path` meets its contract. The invariant: the figures so far are those of the others and of what the hops left add.
use Rattle.figures.proofs.EntryLaws.{hop-at}
use Rattle.figures.proofs.RemoveLaws.{removing-none, removing-room, removing-next, removing-all}
use Rattle.figures.proofs.counting.remove_path.Goals as goal

pub loop-entry-init : goal.loop-entry-init
loop-entry-init c = removing-none _ _ _ _ c.requires.path_counted.exact.long

pub remove_hop-again-requires-clause-rate_bound : goal.remove_hop-again-requires-clause-rate_bound
remove_hop-again-requires-clause-rate_bound c =
    let hop = hop-at c.requires.hops c.loop-entry.invariant.sum_below c.loop-entry-test.true in
    removing-room _ _ _ _ c.loop-entry.invariant c.loop-entry-test.true hop.0 c.requires.path_counted c.share_at.ensures

pub loop-entry-preserved : goal.loop-entry-preserved
loop-entry-preserved c =
    let hop = hop-at c.requires.hops c.loop-entry.invariant.sum_below c.loop-entry-test.true in
    removing-next _ _ _ _ c.loop-entry.invariant c.loop-entry-test.true hop.0 hop.1 c.share_at.ensures c.sum_past-sum.ensures c.remove_hop-again.ensures

pub returns : goal.returns
returns c = removing-all _ _ _ _ c.loop-entry.invariant c.loop-entry-test.false
