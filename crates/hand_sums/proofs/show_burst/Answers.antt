-- What a hop adds to S is at most its threshold.
use Rattle.std.proofs.Common.{arith}
use Rattle.model.proofs.Laws.Formula.{growth-most}
use Rattle.hand_sums.proofs.show_burst.Goals as goal

pub overflow_add-a : goal.overflow_add-a
overflow_add-a g c =
    omega (
      arith,
      growth-most c.args.first c.args.speed,
      growth-most c.args.second c.args.speed,
      c.hop_growth-a.ensures,
      c.hop_growth-b.ensures,
      c.requires,
    )

pub burst_at_hop-requires : goal.burst_at_hop-requires
burst_at_hop-requires g c =
    omega (
      arith,
      growth-most c.args.first c.args.speed,
      growth-most c.args.second c.args.speed,
      c.hop_growth-a.ensures,
      c.hop_growth-b.ensures,
      c.requires,
    )
