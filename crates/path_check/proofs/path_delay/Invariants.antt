-- `path_check::path_delay` meets its contract. The invariant: the sum so far and what is left are the whole.
use Prim.Native.Nat.{◌+◌, ◌*◌, ◌^◌, ◌≤◌}
use mathlib.Core.Path.{◌≡◌}
use lib.ListN.{drop}
use Rattle.model.specs.Total.{total}
use Rattle.path_check.specs.View.{delay_at}
use Rattle.path_check.proofs.path_delay.Given as goal

abbrev pub invariant-loop-entry : goal.invariant-loop-entry
invariant-loop-entry l =
    (l.sum ≤ 2 ^ 33 * l.entry-index) × (l.sum + total (delay_at l.table) (drop l.entry-index l.entries) ≡ total (delay_at l.table) l.entries)
