-- `columns::write_field` meets its contract. The invariant: what is still to be written, before the columns from `at` on, stays the same.
use Prim.Native.Nat.{◌-◌}
use mathlib.Core.Path.{◌≡◌, refl, sym, ◌∙◌}
use native.Mathlib.Omega.{arith}
use lib.ListN.{length, length-set}
use Rattle.model.proofs.Laws.Columns.{padded-step, padded-done, justified-step}
use Rattle.columns.proofs.write_field.Goals as goal

pub loop-at-init : goal.loop-at-init
loop-at-init c = refl

pub loop-at-preserved : goal.loop-at-preserved
loop-at-preserved c =
    let at = c.loop-at in
    let long : length at.part ≡ length c.args.part.now = at.auto.part ∙ length-set c.args.part.now (c.args.width - 1) c.digit.result in
    rw c.digit_or_blank.ensures (padded-step at.at at.rest at.part (omega arith) (omega (arith, long))) ∙ at.invariant

pub returns : goal.returns
returns c =
    let at = c.loop-at in
    let args = c.args in
    sym (padded-done at.at at.rest at.part (omega arith))
    ∙ at.invariant
    ∙ rw c.digit.ensures (justified-step args.width args.n args.part.now (omega arith) (omega arith))
