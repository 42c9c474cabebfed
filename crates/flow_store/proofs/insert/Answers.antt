-- `flow_store::insert` meets its contract: all slots before the lowest free one are held, so that the paths before it end where the last of them does.
use Rattle.std.proofs.Common.{◌∙◌, arith}
use Rattle.flow_store.proofs.StartLaws.{end_before_lem}
use Rattle.flow_store.proofs.insert.Goals as goal

pub put-requires-clause-start_value : goal.put-requires-clause-start_value
put-requires-clause-start_value c =
    let ok = c.requires.0 in
    let least = c.requires.1 in
    let start = end_before_lem _ _ ok.stored.packed c.args.slot (omega (arith, ok.inside)) (λ j lt near. least.set_before j lt) in
    (c.end_before-start.ensures ∙ start, c.held_entries-end.ensures)
