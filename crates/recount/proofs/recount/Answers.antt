-- `recount::recount` meets its contract. The invariant: the figures are those of the slots from `slot` on.
use mathlib.Core.Path.{◌≡◌}
use native.Mathlib.Omega.{arith}
use Rattle.recount.proofs.RecountLaws.{counted_none, counted-all}
use Rattle.recount.proofs.recount.Goals as goal

pub loop-slot-init : goal.loop-slot-init
loop-slot-init c = counted_none _ _ _ c.clear.new.figures c.clear.ensures.0 c.clear.ensures.1

pub returns : goal.returns
returns c =
    let none : c.loop-slot.slot ≡ 0 = omega arith in
    counted-all _ _ _ c.loop-slot.figures (rw none at c.loop-slot.invariant)
