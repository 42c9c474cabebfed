-- `offer_list::read_step` meets its contract: the line's length, then its two fields.
use Rattle.std.proofs.Common.{sym}
use Rattle.offer_list.proofs.ListLaws.{step_other, step-as}
use Rattle.offer_list.proofs.read_step.Goals as goal

pub returns-then-line-ne-STEP_COLUMNS : goal.returns-then-line-ne-STEP_COLUMNS
returns-then-line-ne-STEP_COLUMNS c = sym (step_other _ c.if-line-ne-STEP_COLUMNS.true)

pub returns-in_err-length : goal.returns-in_err-length
returns-in_err-length c = rw c.from_residual.ensures (sym (step-as _ c.if-line-ne-STEP_COLUMNS.false _ (sym (c.in_err-length.ensures))))

pub returns : goal.returns
returns c =
    let read = step-as _ c.if-line-ne-STEP_COLUMNS.false _ (sym (c.in_ok-length.ensures)) in
    sym (simp (read, c.from.ensures))
