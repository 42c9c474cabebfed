-- `columns::has_lf` meets its contract. The invariant: the flag says whether an LF stands in the bytes passed.
use Prim.Native.Nat.{◌≤◌}
use mathlib.Core.Path.{◌≡◌}
use Rattle.columns.specs.View.{lf_within}
use Rattle.columns.proofs.has_lf.Given as goal

abbrev pub invariant-loop-i : goal.invariant-loop-i
invariant-loop-i l = (l.i ≤ 8) × (l.found ≡ lf_within l.text l.at l.i)
