-- A push keeps what is past the hops 0. Assumes nothing.
use mathlib.Core.Path.{◌≡◌, ap, sym, ◌∙◌}
use native.Mathlib.Omega.{arith}
use lib.ListN.{length, length-set}
use Rattle.orders.specs.Free.{taken-long}
use Rattle.orders.proofs.FreeLaws.{free-next}
use Rattle.orders.proofs.path.Path.push.Goals as goal

pub invariant_of-self : goal.invariant_of-self
invariant_of-self c =
    let path = c.self.inside in
    let (within, whole, free) = c.self.invariant in
    let long : length c.args.self.now ≡ path.hops = ap length (sym c.self.view_is) ∙ taken-long path.entries path.hops within whole in (
      omega (arith, c.requires, long),
      search (length-set, whole),
      search (free-next, free),
    )
