-- `units::tokens_added` meets its contract: the product of the two largest values fits.
use Prim.Native.Nat.{◌*◌, ◌≤◌}
use native.Mathlib.Nat.{mul-le-mul}
use native.Mathlib.Omega.{arith}
use Rattle.model.specs.Gate.{turn}
use Rattle.units.proofs.tokens_added.Goals as goal

pub overflow_mul-result : goal.overflow_mul-result
overflow_mul-result c =
    let product : c.args.rate.0 * c.args.passed.0 ≤ 10000000 * turn =
    mul-le-mul {n₂ = 10000000} {m₂ = turn} c.requires.0 (omega (arith, c.requires.1)) in
    omega (arith, product)
