-- `units::burst_at_hop` meets its contract: the product of the two largest values fits, and the quotient is at most the product.
use Prim.Native.Nat.{ℕ, ◌*◌, ◌≤◌}
use native.Mathlib.Nat.{mul-le-mul}
use native.Mathlib.Omega.{arith}
use lib.Dec.{lit≤}
use Rattle.model.specs.Sizes.{thresholds_most}
use Rattle.model.proofs.Laws.Formula.{ceil_div-self}
use Rattle.units.proofs.burst_at_hop.Goals as goal

product : (r s : ℕ) → (r ≤ 10000000) × (s ≤ thresholds_most) → r * s ≤ 10000000 * thresholds_most
product r s h = mul-le-mul {n₂ = 10000000} {m₂ = thresholds_most} h.0 h.1

pub overflow_mul-rate : goal.overflow_mul-rate
overflow_mul-rate c = omega (arith, product c.args.rate.0 c.args.sum.0 (c.requires.0, c.requires.1.1))

pub ceil_div-requires : goal.ceil_div-requires
ceil_div-requires c = omega (arith, product c.args.rate.0 c.args.sum.0 (c.requires.0, c.requires.1.1))

pub overflow_add-result : goal.overflow_add-result
overflow_add-result c =
    omega (arith, product c.args.rate.0 c.args.sum.0 (c.requires.0, c.requires.1.1), c.ceil_div.ensures, ceil_div-self (c.args.rate.0 * c.args.sum.0) {b = 8000} (lit≤ tt), c.requires)
