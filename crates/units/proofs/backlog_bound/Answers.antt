-- `units::backlog_bound` meets its contract: the product of the two largest values fits, and the quotient is at most the product.
use Prim.Native.Nat.{ℕ, ◌+◌, ◌*◌, ◌^◌, ◌≤◌}
use native.Mathlib.Nat.{mul-le-mul}
use native.Mathlib.Omega.{arith}
use Rattle.model.proofs.Laws.Formula.{ceil_div-self}
use Rattle.units.proofs.backlog_bound.Goals as goal

product : (r y b : ℕ) → r ≤ 10000000 → y + b ≤ 2 ^ 40 → r * y ≤ 10000000 * 2 ^ 40
product r y b h sum = let y : y ≤ 2 ^ 40 = omega arith in mul-le-mul {n₂ = 10000000} {m₂ = 2 ^ 40} h y

pub overflow_mul-rate : goal.overflow_mul-rate
overflow_mul-rate c = omega (arith, product c.args.rate.0 c.args.y.0 c.args.burst.0 c.requires.0 c.requires.1.1.1)

pub ceil_div-requires : goal.ceil_div-requires
ceil_div-requires c = (c.requires.1.0, omega (arith, product c.args.rate.0 c.args.y.0 c.args.burst.0 c.requires.0 c.requires.1.1.1, c.requires.1.1.0))

pub overflow_add-result : goal.overflow_add-result
overflow_add-result c =
    omega (arith, product c.args.rate.0 c.args.y.0 c.args.burst.0 c.requires.0 c.requires.1.1.1, c.ceil_div.ensures, ceil_div-self (c.args.rate.0 * c.args.y.0) c.requires.1.0, c.requires.1.1.1)
