-- `columns::skip_blocks` meets its contract. The invariant is what it promises.
use borrow.Author.Rules.{rules}
use Prim.Native.Nat.{◌+◌, ◌≤◌}
use mathlib.Core.Path.{sym, ◌∙◌}
use native.Mathlib.Omega.{arith}
use lib.ListN.{length}
use Rattle.columns.proofs.LineLaws.{line-begun, line-past}
use Rattle.columns.proofs.skip_blocks.Goals as goal

pub loop-i-init : goal.loop-i-init
loop-i-init c = line-begun c.args.text.now c.args.at (omega (arith, c.requires))

pub overflow_sub-text : goal.overflow_sub-text
overflow_sub-text c = c.loop-i.invariant.within

pub has_lf-requires : goal.has_lf-requires
has_lf-requires c = omega (arith, c.loop-i.invariant.within, c.loop-i-test.true)

-- A block stands from `i` on.
block : (c : goal.Else-has_lf) → c.loop-i.i + 8 ≤ length c.args.text.now
block c = omega (arith, c.loop-i.invariant.within, c.loop-i-test.true)

pub overflow_add-i : goal.overflow_add-i
overflow_add-i c = search (rules, block c)

pub loop-i-smaller : goal.loop-i-smaller
loop-i-smaller c = omega (arith, block c)

pub loop-i-preserved : goal.loop-i-preserved
loop-i-preserved c =
    let args = c.args in
    let at = c.loop-i in
    line-past args.text.now args.at at.i 8 at.invariant (block c) (sym c.has_lf.ensures ∙ c.if-has_lf.false)

pub returns-then-has_lf : goal.returns-then-has_lf
returns-then-has_lf c = c.loop-i.invariant

pub returns : goal.returns
returns c = c.loop-i.invariant
