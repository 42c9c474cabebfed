-- `flow_store::put` meets its contract: what its parts leave is the view with the slot set.
use Rattle.std.proofs.Common.{length, ap, ◌∙◌, arith}
use Rattle.flow_store.specs.View.{path_inserted}
use Rattle.flow_store.proofs.PoolLaws.{lent-pool}
use Rattle.flow_store.proofs.StartLaws.{moved-pooled}
use Rattle.flow_store.proofs.InsertLaws.{order, room, inserted}
use Rattle.flow_store.proofs.put.Goals as goal

pub insert_path-requires : goal.insert_path-requires
insert_path-requires c =
    let ok = c.requires.placeable.0 in
    let free = c.requires.placeable.1 in
    (omega (arith, c.requires.start_value.0, c.requires.start_value.1, order ok free), omega (arith, c.requires.start_value.1, room ok free, ap length (lent-pool c.args.store.now)))

pub overflow_cast-start : goal.overflow_cast-start
overflow_cast-start c =
    let ok = c.requires.placeable.0 in
    omega (arith, c.requires.start_value.0, order ok c.requires.placeable.1, ok.stored.packed.fits)

pub returns : goal.returns
returns c =
    let store = c.args.store.now in
    let entries = c.args.entries.now in
    let placed = c.insert_path.ensures ∙ ap (path_inserted c.args.start c.args.end entries) (lent-pool store) in
    let moved = moved-pooled store placed c.move_starts.ensures in
    rw (c.store_flow.ensures, c.requires.start_value.0)
    (inserted c.requires.placeable.0 c.requires.placeable.1 c.set_bit.ensures (rw (c.requires.start_value.0, c.requires.start_value.1) at moved))
