-- `columns::write_at` meets its contract: the part from the first column on is written, and what stands before it stays.
use Prim.Native.Nat.{◌-◌}
use mathlib.Core.Path.{◌∙◌, ap}
use native.Mathlib.Omega.{arith}
use lib.ListN.{length}
use borrow.Rule.Slice.PartMut.{put_mid}
use Rattle.model.specs.Columns.{justified, written_at}
use Rattle.columns.proofs.PartLaws.{part-written}
use Rattle.columns.proofs.write_at.Goals as goal

pub returns : goal.returns
unfolding written_at
returns c =
    let args = c.args in
    let l = args.line.now in
    let s = args.first - 1 in
    ap (put_mid s (length l - s) l) c.write_field.ensures
    ∙ part-written l s args.last (justified (args.last - s) args.n) (omega (arith, c.requires)) (omega (arith, c.requires))
