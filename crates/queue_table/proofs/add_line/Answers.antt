-- `queue_table::add_line` meets its contract: a row that nothing is against is stored as the model adds it.
use mathlib.Core.Path.{sym, ◌∙◌, ap}
use native.Mathlib.Omega.{arith}
use Rattle.columns.proofs.LineLaws.{missed}
use Rattle.queue_table.specs.declared.Fault.TheVariants.{Malformed}
use Rattle.queue_table.specs.View.{row_of}
use Rattle.queue_table.proofs.TurnLaws.{line_added, line_unended}
use Rattle.queue_table.proofs.add_line.Goals as goal

pub returns : goal.returns
returns c =
    let args = c.args in
    let row = sym c.read.ensures ∙ ap row_of c.in_ok-row.ensures.ok_part in
    rw c.in_ok-bytes.ensures.ok_part
    (line_added args.n args.table.now c.in_ok-bytes.bytes.now c.requires c.in_ok-row.row _ c.store_row.ensures row c.in_ok-judge.ensures)

pub returns-in_err-bytes : goal.returns-in_err-bytes
returns-in_err-bytes c =
    let args = c.args in
    let (line, fault) = missed args.line c.in_err-bytes.field-0.0 Malformed c.in_err-bytes.ensures.value in
    let added = line_unended args.n args.table.now c.requires in
    rw line (grind (arith, fault, added))
