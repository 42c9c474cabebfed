-- `figures::shares::sum_past` meets its contract: what a hop adds to S is worked out from its threshold and its link's speed.
use Prim.Native.Nat.{◌+◌}
use mathlib.Core.Path.{ap, ap₂, ◌∙◌}
use native.Mathlib.Omega.{arith}
use Rattle.model.specs.Formula.{hop_growth}
use Rattle.model.proofs.Laws.Formula.{growth-most}
use Rattle.queue_table.specs.View.{speed_at}
use Rattle.figures.specs.View.{growth_at}
use Rattle.figures.proofs.shares.sum_past.Goals as goal

pub overflow_add-result : goal.overflow_add-result
overflow_add-result c =
    omega (arith, c.hop_growth.ensures, growth-most c.queue_at-queue.result.threshold.0 c.link_at-link.result.speed, c.queue_at-queue.ensures, c.requires)

pub returns : goal.returns
unfolding growth_at
returns c =
    let speed = c.link_at-link.ensures.speed_value.0 ∙ ap (speed_at c.args.table.now) c.link_of.ensures in
    ap (λ n. c.args.sum.0 + n) (c.hop_growth.ensures ∙ ap₂ hop_growth c.queue_at-queue.ensures.threshold_value.0 speed)
