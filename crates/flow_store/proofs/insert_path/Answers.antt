-- `flow_store::insert_path` meets its contract: the entries from `start` on are moved up, and the path is copied before them.
use Rattle.std.proofs.Common.{ℕ, List, ◌+◌, ◌-◌, length, refl, ap, ◌∙◌, arith}
use Rattle.std.proofs.Math.Seq.{paste}
use Rattle.std.proofs.lemmas.Slice.{put_mid-paste}
use Rattle.flow_store.specs.View.{path_inserted}
use Rattle.flow_store.proofs.insert_path.Goals as goal

pub returns : goal.returns
unfolding path_inserted
returns c =
    let entries = c.args.entries.now in
    put_mid-paste c.args.start (c.args.start + length entries - c.args.start) _ _ entries (length entries) c.copy_from_slice.ensures.after (omega arith) refl
    ∙ ap (λ (pool : List ℕ). paste pool c.args.start entries (length entries)) c.copy_within.ensures.after
