-- `columns::read_field` meets its contract: blanks are passed, a zero stands alone, and digits are left.
use Prim.Native.Nat.{ℕ, ◌+◌, ◌-◌, ◌<◌}
use mathlib.Core.Path.{◌≡◌, sym, ◌∙◌, ap}
use native.Mathlib.Omega.{arith}
use lib.ListN.{length, get_or, take, drop, length-drop, drop_of_length-le}
use lib.Seq.{take_all}
use Rattle.model.specs.Columns.{field, number, digits, is_digit}
use Rattle.model.proofs.Laws.Columns.{field-other, number-zero-led, number-other}
use Rattle.columns.proofs.read_field.Goals as goal
use Rattle.columns.proofs.read_field.Tie as tie
use Rattle.columns.proofs.read_field.Lts as lts
use Rattle.columns.proofs.read_field.Reads as reads

-- After the blanks stands a number.
unblanked : (c : lts.After-skip_blanks tie.the-claims reads.Pre reads.Post) → c.skip_blanks-at.result < length c.args.s.now
    → field c.args.s.now
    ≡ number (get_or c.args.s.now c.skip_blanks-at.result 0) (drop (c.skip_blanks-at.result + 1) c.args.s.now)
unblanked c h =
    let told = c.skip_blanks-at.ensures in
    told.rest ∙ field-other c.args.s.now c.skip_blanks-at.result h (told.other h)

pub returns-then-s-at : goal.returns-then-s-at
unfolding field
returns-then-s-at c =
    let skipped = c.skip_blanks-at in
    sym (skipped.ensures.rest ∙ ap field (drop_of_length-le c.args.s.now c.if-s-at.true))

pub returns-then-at-s : goal.returns-then-at-s
returns-then-at-s c =
    let at = c.before.before.before.before.before in
    let s = at.args.s.now in
    let i = at.skip_blanks-at.result in
    sym (unblanked at (omega arith) ∙ number-zero-led s i (omega arith) c.if-s-at-eq48.true (omega arith))

pub returns-then-s-at-eq48 : goal.returns-then-s-at-eq48
unfolding number digits is_digit
returns-then-s-at-eq48 c =
    let at = c.before.before.before.before.before in
    let s = at.args.s.now in
    let i = at.skip_blanks-at.result in
    sym (unblanked at (omega arith) ∙ ap (λ (b : ℕ). number b (drop (i + 1) s)) c.if-s-at-eq48.true ∙ ap (number 48) (drop_of_length-le s c.if-at-s.false))

pub returns : goal.returns
returns c =
    let at = c.before.before.before.before.before.before in
    let s = at.args.s.now in
    let i = at.skip_blanks-at.result in
    let whole : take (length s - i) (drop i s) ≡ drop i s = take_all (length s - i) (drop i s) (simp length-drop (omega arith)) in
    c.read_digits.ensures ∙ ap (digits 0) whole ∙ sym (unblanked at (omega arith) ∙ number-other s i (omega arith) c.if-s-at-eq48.false)
