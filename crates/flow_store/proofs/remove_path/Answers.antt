-- `flow_store::remove_path` meets its contract: the entries behind the path are moved down over it.
use Rattle.std.proofs.Common.{◌≡◌, ◌+◌, ◌-◌, drop, ap, ◌∙◌, arith}
use Rattle.std.proofs.Math.Seq.{paste}
use Rattle.flow_store.specs.View.{path_removed}
use Rattle.flow_store.proofs.remove_path.Goals as goal

pub returns : goal.returns
unfolding path_removed
returns c =
    let args = c.args in
    let left : args.end - (args.start + args.hops) ≡ args.end - args.hops - args.start = omega arith in
    c.copy_within.ensures.after ∙ ap (paste args.pool.now args.start (drop (args.start + args.hops) args.pool.now)) left
