-- `admission::change_held` meets its contract: 17, then what the check of the links finds; else the slot and the figures hold the flow so changed.
use Rattle.std.proofs.lemmas.Result.{err_from_is_err_and}
use mathlib.Core.Path.{ap}
use native.Mathlib.Omega.{arith}
use Rattle.model.specs.Formula.{Aggregate}
use Rattle.model.specs.Orders.{change}
use Rattle.causes.specs.declared.Cause.TheVariants.{FrameAboveBurst}
use Rattle.flow_store.proofs.ViewLaws.{path_inside}
use Rattle.figures.proofs.SizeLaws.{limited-below}
use Rattle.admission.proofs.ConsistentLaws.{limited, speeds-within, stepped-refused}
use Rattle.admission.proofs.ReleaseLaws.{share-ranged, path-ranged, path-counted}
use Rattle.admission.proofs.ChangeLaws.{narrow, bit, over-burst, path-on-table, found-cause, path-moved, own-at-source, stepped-changed}
use Rattle.admission.proofs.change_held.Goals as goal

pub returns-then-given-was : goal.returns-then-given-was
returns-then-given-was c =
    let kept = c.requires.consistent_arrays in
    let (first, inside) = c.requires.held_value in
    let frame = ap (λ (a : Aggregate). a.frame) c.flow_at.ensures.share_value in
    stepped-refused _ _ _ _ kept (change _) FrameAboveBurst (over-burst _ _ _ _ kept c.args.given c.args.held first inside (omega (arith, frame, c.if-given-was.true)))

pub path_of-entries-requires : goal.path_of-entries-requires
path_of-entries-requires c =
    let kept = c.requires.consistent_arrays in
    let (first, inside) = c.requires.held_value in
    let held = bit _ _ _ _ kept c.args.given c.args.held first inside in
    (kept.stored.store_long, inside, path_inside _ _ kept.stored.packed c.args.held inside held)

pub check_change-requires : goal.check_change-requires
check_change-requires c =
    let kept = c.requires.consistent_arrays in
    let (first, inside) = c.requires.held_value in
    let held = bit _ _ _ _ kept c.args.given c.args.held first inside in
    let share = c.flow_at.ensures.share_value in
    let path = c.path_of-entries.ensures in
    let on-table = path-on-table _ _ _ _ kept c.args.given c.args.held first inside _ _ share path in
    record {
      at_source = (
        share-ranged _ _ _ _ kept c.args.held inside held _ _ share path,
        own-at-source _ _ _ _ kept c.args.given c.args.held first inside _ _ share path c.requires.given_value,
      );
      hops = path-ranged _ _ _ _ kept c.args.held inside held _ _ share path;
      speeds = (speeds-within _ _ _ _ kept _ on-table.named, limited _ _ _ _ kept);
      on_table = (on-table, path-counted _ _ _ _ kept c.args.held inside held _ _ share path);
    }

pub returns-in_err-check_change : goal.returns-in_err-check_change
returns-in_err-check_change c =
    let kept = c.requires.consistent_arrays in
    let (first, inside) = c.requires.held_value in
    let refused = err_from_is_err_and c.from_residual.result c.from_residual.ensures.1 in
    let found = found-cause _ _ _ _ kept c.args.given c.args.held first inside _ _ c.flow_at.ensures.share_value c.path_of-entries.ensures c.if-given-was.false _ c.in_err-check_change.ensures in
    rw (refused.1, refused.2) (stepped-refused _ _ _ _ kept (change _) _ found)

pub change-requires : goal.change-requires
change-requires c = (c.requires.held_value.1, c.requires.consistent_arrays.stored.store_long, narrow c.args.given c.requires.given_value)

pub change_path-requires : goal.change_path-requires
change_path-requires c =
    let kept = c.requires.consistent_arrays in
    let (first, inside) = c.requires.held_value in
    let held = bit _ _ _ _ kept c.args.given c.args.held first inside in
    let share = c.flow_at.ensures.share_value in
    let path = c.path_of-entries.ensures in
    record {
      at_source = (
        share-ranged _ _ _ _ kept c.args.held inside held _ _ share path,
        own-at-source _ _ _ _ kept c.args.given c.args.held first inside _ _ share path c.requires.given_value,
      );
      hops = path-ranged _ _ _ _ kept c.args.held inside held _ _ share path;
      below = (limited-below _ (limited _ _ _ _ kept), path-counted _ _ _ _ kept c.args.held inside held _ _ share path);
    }

pub returns : goal.returns
returns c =
    let kept = c.requires.consistent_arrays in
    let (first, inside) = c.requires.held_value in
    let share = c.flow_at.ensures.share_value in
    let path = c.path_of-entries.ensures in
    stepped-changed _ _ _ _ kept c.args.given c.args.held first inside c.requires.given_value
    (found-cause _ _ _ _ kept c.args.given c.args.held first inside _ _ share path c.if-given-was.false _ c.in_ok-check_change.ensures)
    (c.change.ensures.by_index _) (c.change.ensures.by_index_2 _ kept.stored)
    (path-moved _ _ _ _ kept c.args.given c.args.held first inside _ _ share path _ c.change_path.ensures)
