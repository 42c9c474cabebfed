-- `flow_check::path_stands` meets its contract: 14 is judged first; then the entries are queues, on which 16, 15 and 20 are.
use mathlib.Core.Path.{◌≡◌, refl, sym, ap, ◌∙◌}
use Rattle.std.specs.Prelude.{Result, Ok, Err, is_ok}
use Rattle.model.specs.Words.{is_none}
use Rattle.causes.specs.View.{finding_of}
use Rattle.causes.specs.declared.Cause.{Cause}
use Rattle.path_check.proofs.EntryLaws as entries
use Rattle.flow_check.proofs.SlotLaws.{first_some, first-skip}
use Rattle.flow_check.proofs.path_stands.Goals as goal

nothing-found : (r : Result (Unit {0}) Cause) → is_ok r ≡ is_none (finding_of r)
unfolding is_none
nothing-found (Ok x) = refl
nothing-found (Err cause) = refl

pub judge_entries-requires : goal.judge_entries-requires
judge_entries-requires c =
    (c.requires.0, entries.all-queues c.args.table.now c.args.entries.now (sym c.all_queues.ensures ∙ c.if-all_queues.true), c.requires.1)

pub returns-then-all_queues : goal.returns-then-all_queues
returns-then-all_queues c =
    c.is_ok.ensures.value
    ∙ nothing-found c.judge_entries.result
    ∙ ap is_none c.judge_entries.ensures
    ∙ sym (ap is_none (first-skip _ _ (sym c.all_queues.ensures ∙ c.if-all_queues.true)))

pub returns-else-all_queues : goal.returns-else-all_queues
returns-else-all_queues c = c.if-all_queues.false ∙ sym (first_some _ _ (sym c.all_queues.ensures ∙ c.if-all_queues.false))
