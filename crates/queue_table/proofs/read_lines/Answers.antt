-- `queue_table::read_lines` meets its contract: a text that is too long isn't read.
use mathlib.Core.Path.{refl, ◌∙◌}
use Rattle.std.proofs.Common.{rules}
use Rattle.columns.specs.View.{line_of}
use Rattle.queue_table.specs.declared.Fault.{Fault}
use Rattle.queue_table.proofs.ReadLaws.{text_long, reading_begun, line_faulty}
use Rattle.queue_table.proofs.read_lines.Goals as goal

pub returns-then-text-gt-TABLE_BYTES : goal.returns-then-text-gt-TABLE_BYTES
returns-then-text-gt-TABLE_BYTES c = text_long c.args.text.now c.args.table.now _ refl c.requires c.if-text-gt-TABLE_BYTES.true

pub loop-line-init : goal.loop-line-init
loop-line-init c =
    reading_begun c.args.text.now c.args.table.now _ (c.into_iter-line-iterator.ensures.into_iter_gives ∙ c.lines-line-items.ensures) c.requires

pub returns-in_err-n : goal.returns-in_err-n
returns-in_err-n c =
    let reading = c.loop-line in
    let faulty =
    λ (fault : Fault).
    line_faulty c.args.text.now reading.table reading.line-iterator c.next.new.self reading.number reading.n c.add_line.new.table fault (line_of c.in-Some.line)
    reading.invariant c.in-Some.ensures.steps in
    search (rules, faulty)
