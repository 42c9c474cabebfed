-- `columns::read_at` meets its contract: a line that is too short has no such field, else the part is the field.
use mathlib.Core.Path.{◌∙◌}
use borrow.Author.Tests.{le-leb, lt-leb}
use lib.ListN.{length}
use Rattle.model.specs.Columns.{field_at}
use Rattle.columns.proofs.read_at.Goals as goal

pub returns-then-line-last : goal.returns-then-line-last
unfolding field_at
returns-then-line-last c = simp (lt-leb c.args.last (length c.args.line.now) c.if-line-last.true)

pub returns : goal.returns
unfolding field_at
returns c =
    let args = c.args in
    c.read_field.ensures ∙ simp (le-leb args.last (length args.line.now) c.if-line-last.false)
