-- A cleared array holds the figures of no flow.
-- Assumes nothing.
use Prim.Native.Nat.{ℕ, ◌*◌}
use mathlib.Core.Path.{◌≡◌}
use mathlib.Core.List.{List, []}
use native.Mathlib.Omega.{arith}
use lib.ListN.{length, get_or}
use Rattle.model.specs.Total.{total, largest}
use Rattle.model.specs.QueueTable.{Table}
use Rattle.model.specs.Aggregates.{all_shares, shares_at, aggregate_at}
use Rattle.figures.specs.View.{own_numbers, burst_position, frame_position, figure_numbers, figure_at, Below, Figures}

pub figures-none : (t : Table) (figures : List ℕ) → length figures ≡ figure_numbers → Below 0 figures → Figures t [] figures
unfolding figure_at shares_at aggregate_at all_shares total largest
figures-none t figures long below =
    record { long = long; same = λ e lt i. record { rate = none-at (own_numbers * e) i; burst = none-at (burst_position e) i; frame = none-at (frame_position e) i } }
  where
    none-at : (j : ℕ) → get_or figures j 0 ≡ 0
    none-at j = omega (arith, below j)
