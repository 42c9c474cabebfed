-- `flow_store::append` meets its contract: from its slot on no slot has entries, so that the paths before it end where all do.
use Rattle.std.proofs.Common.{sym, ◌∙◌, arith}
use Rattle.flow_store.proofs.StartLaws.{counts_whole}
use Rattle.flow_store.proofs.append.Goals as goal

pub put-requires-clause-start_value : goal.put-requires-clause-start_value
put-requires-clause-start_value c =
    let ok = c.requires.0 in
    let all = c.held_entries-end.ensures in
    (all ∙ sym (counts_whole _ _ c.args.slot (omega (arith, ok.inside)) c.requires.1), all)
