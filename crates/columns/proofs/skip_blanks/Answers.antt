-- `columns::skip_blanks` meets its contract. The invariant: the field says what the bytes from `i` on say.
use mathlib.Core.Path.{◌≡◌, refl, ◌∙◌, ap}
use native.Mathlib.Omega.{arith}
use lib.ListN.{length, drop}
use Rattle.model.specs.Columns.{field}
use Rattle.model.proofs.Laws.Columns.{field-blank}
use Rattle.columns.proofs.skip_blanks.Goals as goal

pub loop-i-init : goal.loop-i-init
loop-i-init c = refl

pub returns-then-byte-ne-BLANK : goal.returns-then-byte-ne-BLANK
returns-then-byte-ne-BLANK c = record { within = omega arith; rest = c.loop-i.invariant; other = λ _. c.if-byte-ne-BLANK.true }

pub loop-i-preserved : goal.loop-i-preserved
loop-i-preserved c = c.loop-i.invariant ∙ field-blank c.args.s.now c.loop-i.i (omega arith) c.if-byte-ne-BLANK.false

pub returns : goal.returns
returns c =
    let at = c.loop-i in
    let end : at.i ≡ length c.args.s.now = omega (arith, at.auto.i-end, c.loop-i-test.false) in
    record { within = omega arith; rest = at.invariant ∙ ap (λ k. field (drop k c.args.s.now)) end; other = λ h. absurd (omega arith) }
