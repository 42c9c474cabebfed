-- `orders::read_path` keeps its invariant: one hop more is read into the array.
use mathlib.Core.Path.{sym, ◌∙◌, ap}
use native.Mathlib.Omega.{arith}
use lib.ListN.{length-set}
use Rattle.model.specs.Orders.{hop_field}
use Rattle.orders.proofs.PathLaws.{path-step, rest, start}
use Rattle.orders.proofs.read_path.Goals as goal

pub loop-i-preserved : goal.loop-i-preserved
loop-i-preserved c =
    let line = c.args.line.now in
    let l = c.loop-i in
    let hop = c.in_ok-hops in
    record {
      whole = simp length-set l.invariant.whole;
      read = path-step line l.hops c.args.count l.i hop.field-0 (omega (arith, l.invariant.whole)) (omega arith) (ap hop_field (sym (rest line (start l.i))) ∙ sym hop.ensures) ∙ l.invariant.read;
    }
