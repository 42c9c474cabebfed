-- `figures::counting::change_path` meets its contract. The invariant: what the hops left add by the old share is still in the figures.
use Prim.Native.Nat.{◌^◌}
use native.Mathlib.Omega.{arith}
use Rattle.figures.proofs.EntryLaws.{hop-at, share-limited}
use Rattle.figures.proofs.ChangeLaws.{changing-none, changing-room, changing-next, changing-all}
use Rattle.figures.proofs.counting.change_path.Goals as goal

pub loop-entry-init : goal.loop-entry-init
loop-entry-init c = changing-none _ _ _ _ _ c.requires.below.1.exact.long

pub changed_at-requires : goal.changed_at-requires
changed_at-requires c =
    let now = c.loop-entry.invariant in
    let more = c.loop-entry-test.true in
    let pre = c.requires in
    let hop = hop-at pre.hops now.sum_below more in record {
      at_source = (pre.at_source.0, (pre.at_source.1, hop.2));
      figures_len = (hop.0, (now.long, λ j. omega (arith, now.below (2 ^ 62) pre.below.0 j, pre.hops.few)));
      room_at = changing-room _ _ _ _ _ now more hop.0 pre.below.1;
    }

pub loop-entry-preserved : goal.loop-entry-preserved
loop-entry-preserved c =
    let hop = hop-at c.requires.hops c.loop-entry.invariant.sum_below c.loop-entry-test.true in
    changing-next _ _ _ _ _ c.loop-entry.invariant c.loop-entry-test.true hop.0 hop.1 (share-limited c.requires.at_source.1 hop.2) c.changed_at.ensures c.sum_past-sum.ensures
    c.store_hop.ensures

pub returns : goal.returns
returns c = changing-all _ _ _ _ _ c.loop-entry.invariant c.loop-entry-test.false
