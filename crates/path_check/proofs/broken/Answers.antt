-- `path_check::broken` meets its contract. The invariant: the search from hop i on answers what the whole search does.
use mathlib.Core.Path.{sym, ◌∙◌}
use native.Mathlib.Omega.{arith}
use Rattle.model.specs.Reference.{starts_elsewhere}
use Rattle.queue_table.specs.View.{table_of}
use Rattle.path_check.proofs.SearchLaws.{starts-first, starts-nearest, entry_found, entry-passed, none_found}
use Rattle.path_check.proofs.broken.Goals as goal

pub loop-i-init : goal.loop-i-init
loop-i-init c = starts-first c.args.table.now c.args.entries.now

pub returns-then-starts_elsewhere-clause-entries_value : goal.returns-then-starts_elsewhere-clause-entries_value
returns-then-starts_elsewhere-clause-entries_value c =
    let table = c.args.table.now in
    let entries = c.args.entries.now in
    let i = c.loop-i.i in
    c.loop-i.invariant
    ∙ entry_found entries 15 (starts_elsewhere (table_of table)) i (omega arith)
    (starts-nearest entries table i (omega arith) (omega arith) ∙ sym c.starts_elsewhere.ensures ∙ c.if-starts_elsewhere.true)

pub loop-i-preserved : goal.loop-i-preserved
loop-i-preserved c =
    let table = c.args.table.now in
    let entries = c.args.entries.now in
    let i = c.loop-i.i in
    c.loop-i.invariant
    ∙ entry-passed entries 15 (starts_elsewhere (table_of table)) i (omega arith)
    (starts-nearest entries table i (omega arith) (omega arith) ∙ sym c.starts_elsewhere.ensures ∙ c.if-starts_elsewhere.false)

pub returns-clause-entries_value : goal.returns-clause-entries_value
returns-clause-entries_value c =
    c.loop-i.invariant ∙ none_found c.args.entries.now 15 (starts_elsewhere (table_of c.args.table.now)) c.loop-i.i (omega arith)
