-- `link_check::blockings` meets its contract. The invariant: the entries from `i` on are right, and `largest` is what blocks above level `i`.
use Prim.Native.Nat.{◌-◌}
use mathlib.Core.Path.{refl, sym, ap, ◌∙◌}
use native.Mathlib.Omega.{arith}
use lib.ListN.{length-set}
use Rattle.model.specs.Sizes.{levels_most}
use Rattle.model.specs.Formula.{blocking}
use Rattle.model.specs.Laws.LinkSteps.{blockings}
use Rattle.model.proofs.Laws.LinkSteps.{blocking-none}
use Rattle.units.specs.View.{aggregate_of}
use Rattle.link_check.proofs.Laws.{mapped_end, top-previous, blocked-previous}
use Rattle.link_check.proofs.blockings.Goals as goal

pub loop-i-init : goal.loop-i-init
unfolding blockings
loop-i-init c =
    let end = sym (mapped_end aggregate_of c.args.levels levels_most (omega arith)) in
    let alone = c.args.besteffort.0 in
    (refl, sym (blocking-none alone) ∙ ap (blocking alone) end, ap (blockings alone) end)

pub loop-i-preserved : goal.loop-i-preserved
loop-i-preserved c =
    let alone = c.args.besteffort.0 in
    let levels = c.args.levels in
    let at = c.loop-i in (
      length-set at.blocked (at.i - 1) at.largest ∙ at.invariant.0,
      c.larger-largest.ensures ∙ top-previous alone levels at.largest at.i (omega arith) (omega arith) at.invariant.1,
      blocked-previous alone levels at.largest at.i (omega arith) (omega arith) at.invariant.1 at.blocked (omega arith) at.invariant.2,
    )
