-- `flow_check::judge_entries` meets its contract: 16, 15 and 20 are judged in the definition's order.
use mathlib.Core.Path.{sym, ◌∙◌}
use borrow.Author.Tests.{lt-ltb, le-ltb}
use Rattle.model.specs.Reference.{first_cause, whole}
use Rattle.model.proofs.Laws.All.{all-imp}
use Rattle.queue_table.proofs.EntryLaws.{queue-low}
use Rattle.path_check.proofs.SearchLaws.{entry-cause}
use Rattle.flow_check.specs.View.{entry_findings}
use Rattle.flow_check.proofs.judge_entries.Goals as goal

pub repeated-requires : goal.repeated-requires
repeated-requires c = all-imp c.args.entries.now (λ e q. queue-low c.args.table.now e q c.requires.0.few) c.requires.1

pub returns-in-Some : goal.returns-in-Some
unfolding first_cause entry_findings
returns-in-Some c =
    let again = c.in-Some.ensures in
    rw (c.hop_at-hop.ensures.0, c.hop_at-hop.ensures.1)
    (sym (simp (again.entries_value ∙ entry-cause c.args.entries.now 16 c.in-Some.again again.within)))

pub returns-in-Some-broken : goal.returns-in-Some-broken
unfolding first_cause entry_findings
returns-in-Some-broken c =
    let apart = c.in-Some-broken.ensures in
    rw (c.hop_at-hop-in-Some-broken.ensures.0, c.hop_at-hop-in-Some-broken.ensures.1)
    (sym (simp (c.in_default.ensures.entries_value, apart.entries_value ∙ entry-cause c.args.entries.now 15 c.in-Some-broken.apart apart.within)))

pub returns-then-deadline-sum : goal.returns-then-deadline-sum
unfolding first_cause entry_findings whole
returns-then-deadline-sum c =
    sym (simp (c.in_default.ensures.entries_value, c.in_default-broken.ensures.entries_value, sym c.path_delay-sum.ensures, lt-ltb _ _ c.if-deadline-sum.true))

pub returns : goal.returns
unfolding first_cause entry_findings whole
returns c =
    sym (simp (c.in_default.ensures.entries_value, c.in_default-broken.ensures.entries_value, sym c.path_delay-sum.ensures, le-ltb _ _ c.if-deadline-sum.false))
