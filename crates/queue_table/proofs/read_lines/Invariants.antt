-- `queue_table::read_lines` meets its contract. The invariant: the lines left, after the links read so far, say what the whole text says.
use Rattle.queue_table.proofs.ReadLaws.{Reading}
use Rattle.queue_table.proofs.read_lines.Given as goal

abbrev pub invariant-loop-line : goal.invariant-loop-line
invariant-loop-line l = Reading l.text l.table l.line-iterator l.number l.n
