-- `columns::next_line` meets its contract. The invariant: the bytes from `at` to `i` hold no LF, so they stand before the lines from `i` on.
use Rattle.columns.specs.View.{SameLine}
use Rattle.columns.proofs.next_line.Given as goal

abbrev pub invariant-loop-i : goal.invariant-loop-i
invariant-loop-i l = SameLine l.text l.at l.i
