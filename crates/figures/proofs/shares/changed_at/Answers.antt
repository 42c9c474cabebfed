-- `figures::shares::changed_at` meets its contract: both shares are those worked out there, and the figures those of the queue.
use Prim.Native.Nat.{◌*◌}
use mathlib.Core.Path.{ap}
use native.Mathlib.Omega.{arith}
use Rattle.model.specs.Formula as model
use Rattle.figures.specs.View.{own_numbers, burst_position, figure_at}
use Rattle.figures.proofs.EntryLaws.{share-limited}
use Rattle.figures.proofs.shares.changed_at.Goals as goal

pub replaced-requires-clause-rate_bound : goal.replaced-requires-clause-rate_bound
unfolding figure_at
replaced-requires-clause-rate_bound c =
    omega (
      arith,
      ap (λ (a : model.Aggregate). a.rate) c.figure.ensures,
      ap (λ (a : model.Aggregate). a.burst) c.figure.ensures,
      ap (λ (a : model.Aggregate). a.rate) c.grown.ensures,
      ap (λ (a : model.Aggregate). a.burst) c.grown.ensures,
      c.requires.figures_len.1.1 (own_numbers * c.args.e),
      c.requires.figures_len.1.1 (burst_position c.args.e),
      share-limited c.requires.at_source.1.0 c.requires.at_source.1.1,
    )
