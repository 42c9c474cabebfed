-- `offer_list::read_opening` meets its contract: the line's length, then its fields two by two.
use Rattle.std.proofs.Common.{sym, refl}
use Rattle.offer_list.proofs.ListLaws.{opening-other, opening-as}
use Rattle.offer_list.proofs.read_opening.Goals as goal

pub returns-then-line-ne-OPENING_COLUMNS : goal.returns-then-line-ne-OPENING_COLUMNS
returns-then-line-ne-OPENING_COLUMNS c = sym (opening-other _ c.if-line-ne-OPENING_COLUMNS.true)

pub returns-in_err-rate : goal.returns-in_err-rate
returns-in_err-rate c = rw c.from_residual.ensures (sym (opening-as _ c.if-line-ne-OPENING_COLUMNS.false _ _ (sym (c.in_err-rate.ensures)) refl))

pub returns-in_err-frame : goal.returns-in_err-frame
returns-in_err-frame c =
    rw c.from_residual-in_err-frame.ensures (sym (opening-as _ c.if-line-ne-OPENING_COLUMNS.false _ _ (sym (c.in_ok-rate.ensures)) (sym (c.in_err-frame.ensures))))

pub returns : goal.returns
returns c =
    let read = opening-as _ c.if-line-ne-OPENING_COLUMNS.false _ _ (sym (c.in_ok-rate.ensures)) (sym (c.in_ok-frame.ensures)) in
    sym (simp (read, c.from.ensures, c.from-2.ensures, c.from-3.ensures))
