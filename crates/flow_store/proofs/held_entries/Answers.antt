-- `flow_store::held_entries` meets its contract: past the greatest held slot no slot has entries.
use Rattle.std.proofs.Common.{◌≤◌, ◌∙◌, arith}
use Rattle.model.specs.Sizes.{slot_count}
use Rattle.flow_store.proofs.StartLaws.{end_before_lem, counts_whole}
use Rattle.flow_store.proofs.held_entries.Goals as goal

pub returns : goal.returns
returns c =
    let bits = c.args.bits.now in
    let store = c.args.store.now in
    let past = c.past_set.ensures in
    let end = c.past_set.result in
    let inside : end ≤ slot_count = omega (arith, past.inside, c.requires.0) in
    c.end_before.ensures
    ∙ end_before_lem bits store c.requires.2 end inside past.set
    ∙ counts_whole bits store end inside (λ j low high. past.clear-after j low (omega (arith, c.requires.0)))
