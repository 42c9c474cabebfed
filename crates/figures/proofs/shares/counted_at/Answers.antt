-- `figures::shares::counted_at` meets its contract: the share is the one worked out there, and the figures those of the queue.
use mathlib.Core.Path.{ap}
use native.Mathlib.Omega.{arith}
use Rattle.model.specs.Formula as model
use Rattle.figures.proofs.EntryLaws.{share-limited}
use Rattle.figures.proofs.shares.counted_at.Goals as goal

pub with_flow-requires : goal.with_flow-requires
with_flow-requires c =
    let limited = c.requires.e_lt_queues_most.1 in
    let low = c.requires.e_lt_queues_most.0 in
    omega (
      arith,
      ap (λ (a : model.Aggregate). a.rate) c.figure.ensures,
      ap (λ (a : model.Aggregate). a.burst) c.figure.ensures,
      ap (λ (a : model.Aggregate). a.rate) c.share_at.ensures,
      ap (λ (a : model.Aggregate). a.burst) c.share_at.ensures,
      limited.rates c.args.e low,
      limited.bursts c.args.e low,
      share-limited c.requires.at_source.0 c.requires.at_source.1,
    )
