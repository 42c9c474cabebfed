-- `units::within_delay` meets its contract: the quotient is within the threshold exactly where the products are.
use Prim.Native.Nat.{◌^◌}
use native.Mathlib.Nat.{mul-le-mul, le_of_lt}
use native.Mathlib.Omega.{arith}
use Rattle.units.proofs.ProductLaws.{delay-within}
use Rattle.units.proofs.within_delay.Goals as goal

pub overflow_mul-result-2 : goal.overflow_mul-result-2
overflow_mul-result-2 c = omega (arith, mul-le-mul {n₂ = 2 ^ 32} {m₂ = 10000000} (le_of_lt c.requires.3) c.requires.1)

pub returns : goal.returns
returns c = delay-within c.args.y.0 c.args.burst.0 c.args.res.0 c.args.threshold.0 c.requires.0
