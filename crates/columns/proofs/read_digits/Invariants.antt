-- `columns::read_digits` meets its contract. The invariant: the digits passed make `n`, which has at most as many digits, and the rest goes on from there.
use Prim.Native.Nat.{◌^◌, ◌<◌}
use mathlib.Core.Path.{◌≡◌}
use lib.ListN.{drop}
use Rattle.model.specs.Columns.{digits}
use Rattle.columns.proofs.read_digits.Given as goal

abbrev pub invariant-loop-byte : goal.invariant-loop-byte
invariant-loop-byte l = (l.n < 10 ^ l.byte-index) × (digits 0 l.s ≡ digits l.n (drop l.byte-index l.s))
