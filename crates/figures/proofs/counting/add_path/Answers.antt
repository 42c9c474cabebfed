-- `figures::counting::add_path` meets its contract. The invariant: what the hops left add and the figures so far make the whole.
use Prim.Native.Nat.{◌^◌}
use mathlib.Core.Path.{sym, subst}
use native.Mathlib.Omega.{arith}
use Rattle.figures.specs.View.{LimitedShare}
use Rattle.figures.proofs.EntryLaws.{hop-at, share-limited}
use Rattle.figures.proofs.AddLaws.{adding-none, adding-next, adding-all}
use Rattle.figures.proofs.counting.add_path.Goals as goal

pub loop-entry-init : goal.loop-entry-init
loop-entry-init c = adding-none _ _ _ _ c.requires.figures_len.0

pub add_hop-requires : goal.add_hop-requires
add_hop-requires c =
    let now = c.loop-entry.invariant in
    let hop = hop-at c.requires.hops now.sum_below c.loop-entry-test.true in record {
      e_lt_queues_most = (hop.0, (now.long, λ j. omega (arith, now.below (2 ^ 62) c.requires.figures_len.1 j, c.requires.hops.few)));
      limited_share = subst LimitedShare (sym c.share_at.ensures) (share-limited c.requires.at_source hop.2);
    }

pub loop-entry-preserved : goal.loop-entry-preserved
loop-entry-preserved c =
    let hop = hop-at c.requires.hops c.loop-entry.invariant.sum_below c.loop-entry-test.true in
    adding-next _ _ _ _ c.loop-entry.invariant c.loop-entry-test.true hop.1 hop.0 (share-limited c.requires.at_source hop.2) c.share_at.ensures c.sum_past-sum.ensures
    c.add_hop.ensures

pub returns : goal.returns
returns c = adding-all _ _ _ _ c.loop-entry.invariant c.loop-entry-test.false c.requires.hops.few
