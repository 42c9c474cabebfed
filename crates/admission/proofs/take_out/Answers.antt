-- `admission::take_out` meets its contract: the flow was counted in, so that its path can be taken out, and what is left is right.
use Rattle.flow_store.proofs.ViewLaws.{path_inside, readable}
use Rattle.admission.proofs.ReleaseLaws.{share-ranged, path-ranged, path-counted, path-removed, entries-low-left, kept-left, kept-raised}
use Rattle.admission.proofs.take_out.Goals as goal

pub path_of-entries-requires : goal.path_of-entries-requires
path_of-entries-requires c =
    let kept = c.requires.consistent_arrays in
    let (inside, held) = c.requires.slot_lt_slot_count in
    (kept.stored.store_long, inside, path_inside _ _ kept.stored.packed c.args.slot inside held)

pub remove_path-lower-requires : goal.remove_path-lower-requires
remove_path-lower-requires c =
    let (inside, held) = c.requires.slot_lt_slot_count in
    let kept = c.requires.consistent_arrays in
    let share = c.flow_at-flow.ensures.share_value in
    let path = c.path_of-entries.ensures in
    record {
      at_source = share-ranged _ _ _ _ kept c.args.slot inside held _ _ share path;
      hops = path-ranged _ _ _ _ kept c.args.slot inside held _ _ share path;
      path_counted = path-counted _ _ _ _ kept c.args.slot inside held _ _ share path;
    }

pub raise_frames-requires : goal.raise_frames-requires
raise_frames-requires c =
    let (inside, held) = c.requires.slot_lt_slot_count in
    let gone = c.remove.ensures in
    record {
      readable = (readable _ _ gone.packed_store, c.remove_path-lower.ensures.long);
      by_index = entries-low-left _ _ _ _ c.requires.consistent_arrays c.args.slot inside held gone.store_after gone.packed_store;
    }

pub returns-then-lower-clause-consistent_arrays_2 : goal.returns-then-lower-clause-consistent_arrays_2
returns-then-lower-clause-consistent_arrays_2 c =
    let (inside, held) = c.requires.slot_lt_slot_count in
    let kept = c.requires.consistent_arrays in
    let gone = c.remove.ensures in
    let removed = path-removed _ _ _ _ kept c.args.slot inside held _ _ c.flow_at-flow.ensures.share_value c.path_of-entries.ensures _ _ c.remove_path-lower.ensures in
    kept-raised _ _ _ _ kept c.args.slot inside held gone.store_after gone.packed_store removed c.raise_frames.ensures

pub returns-else-lower-clause-consistent_arrays_2 : goal.returns-else-lower-clause-consistent_arrays_2
returns-else-lower-clause-consistent_arrays_2 c =
    let (inside, held) = c.requires.slot_lt_slot_count in
    let kept = c.requires.consistent_arrays in
    let gone = c.remove.ensures in
    let removed = path-removed _ _ _ _ kept c.args.slot inside held _ _ c.flow_at-flow.ensures.share_value c.path_of-entries.ensures _ _ c.remove_path-lower.ensures in
    kept-left _ _ _ _ kept c.args.slot inside held gone.store_after gone.packed_store removed c.if-lower.false
