-- `link_check::rate_sum` meets its contract. The invariant: the sum of the levels passed and the total of those left make the total.
use mathlib.Core.Path.{ap}
use native.Mathlib.Omega.{arith}
use Rattle.model.specs.Total.{total}
use Rattle.model.proofs.Laws.Total.{total-next}
use Rattle.units.specs.View.{aggregate_of}
use Rattle.link_check.proofs.Laws.{mapped_end, level-next}
use Rattle.link_check.proofs.rate_sum.Goals as goal

pub overflow_add-sum : goal.overflow_add-sum
overflow_add-sum c = omega (arith, total-next (λ a. a.rate) (level-next c.args.levels c.loop-own.own-index (omega arith)))

pub loop-own-preserved : goal.loop-own-preserved
loop-own-preserved c = omega (arith, total-next (λ a. a.rate) (level-next c.args.levels c.loop-own.own-index (omega arith)))

pub returns : goal.returns
unfolding total
returns c = omega (arith, ap (total (λ a. a.rate)) (mapped_end aggregate_of c.args.levels c.loop-own.own-index (omega arith)))
