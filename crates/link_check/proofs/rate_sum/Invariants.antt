-- `link_check::rate_sum` meets its contract. The invariant: the sum of the levels passed and the total of those left make the total.
use Prim.Native.Nat.{◌+◌}
use mathlib.Core.Path.{◌≡◌}
use lib.ListN.{drop}
use Rattle.model.specs.Total.{total}
use Rattle.link_check.specs.View.{aggregates_of}
use Rattle.link_check.proofs.rate_sum.Given as goal

abbrev pub invariant-loop-own : goal.invariant-loop-own
invariant-loop-own l = l.sum + total (λ a. a.rate) (drop l.own-index (aggregates_of l.own-items)) ≡ total (λ a. a.rate) (aggregates_of l.fn.levels)
