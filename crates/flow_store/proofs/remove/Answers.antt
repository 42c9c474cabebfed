-- `flow_store::remove` meets its contract: what its parts leave is the view with the slot empty.
use Rattle.std.proofs.Common.{◌≡◌, ◌+◌, ◌%◌, ◌^◌, length, sym, ap, ◌∙◌, arith}
use Rattle.flow_store.specs.View.{count_at, counts_from, path_removed, StartsMoved}
use Rattle.flow_store.proofs.ViewLaws.{count_held}
use Rattle.flow_store.proofs.PoolLaws.{pooled, lent-pool}
use Rattle.flow_store.proofs.StartLaws.{moved-pooled}
use Rattle.flow_store.proofs.RemoveLaws.{order, within, pool', removed, removed-store}
use Rattle.flow_store.proofs.remove.Goals as goal
use Rattle.flow_store.proofs.remove.Tie as tie
use Rattle.flow_store.proofs.remove.Lts as lts
use Rattle.flow_store.proofs.remove.Reads as reads

pub remove_path-requires : goal.remove_path-requires
remove_path-requires c =
    let args = c.args in
    let pre = c.requires in
    let start = c.start_at-start.ensures.0 ∙ pre.0.packed.starts args.slot pre.1 pre.2 in
    let count = c.hops_at-hops.ensures.0 ∙ sym (count_held args.bits.now args.store.now args.slot pre.2) in
    let end = c.held_entries-end.ensures in
    (omega (arith, count, start, end, order pre.1 pre.0), omega (arith, end, within pre.1 pre.0, ap length (lent-pool args.store.now)))

-- What the parts leave.
module _ (c : lts.After-slice_known5 tie.the-claims reads.Pre reads.Post tie.handed_clauses) where
  start : c.start_at-start.result ≡ counts_from c.args.slot 0 c.args.bits.now c.args.store.now
  start = c.start_at-start.ensures.0 ∙ c.requires.0.packed.starts c.args.slot c.requires.1 c.requires.2

  count : c.hops_at-hops.result ≡ count_at c.args.bits.now c.args.store.now c.args.slot
  count = c.hops_at-hops.ensures.0 ∙ sym (count_held c.args.bits.now c.args.store.now c.args.slot c.requires.2)

  complement : (c.wrapping_neg.result + count_at c.args.bits.now c.args.store.now c.args.slot) % 2 ^ 32 ≡ 0
  complement = rw (sym count) c.wrapping_neg.ensures

  shift : StartsMoved (c.args.slot + 1) c.wrapping_neg.result (pooled c.args.store.now (pool' c.requires.1 c.requires.0)) c.move_starts.new.store
  shift =
      let end = c.held_entries-end.ensures in
      let left = c.remove_path.ensures ∙ (λ t. path_removed (start t) (end t) (count t) (lent-pool c.args.store.now t)) in
      moved-pooled c.args.store.now left c.move_starts.ensures

pub returns : goal.returns
returns c =
    let marked = c.clear_bit.ensures in record { store_after = removed c.requires.1 c.requires.0 (complement c.before) marked (shift c.before); packed_store = removed-store c.requires.1 c.requires.0 (complement c.before) marked (shift c.before) }
