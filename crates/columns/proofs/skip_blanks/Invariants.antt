-- `columns::skip_blanks` meets its contract. The invariant: the field says what the bytes from `i` on say.
use mathlib.Core.Path.{◌≡◌}
use lib.ListN.{drop}
use Rattle.model.specs.Columns.{field}
use Rattle.columns.proofs.skip_blanks.Given as goal

abbrev pub invariant-loop-i : goal.invariant-loop-i
invariant-loop-i l = field l.s ≡ field (drop l.i l.s)
