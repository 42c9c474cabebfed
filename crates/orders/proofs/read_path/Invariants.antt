-- The hops read so far, before what the rest of the line says, are the whole path.
use mathlib.Core.Path.{◌≡◌}
use lib.ListN.{length, drop}
use Rattle.model.specs.Sizes.{hops_most, head_columns}
use Rattle.model.specs.Orders.{hop_fields}
use Rattle.orders.proofs.PathLaws.{read-so-far}
use Rattle.orders.proofs.read_path.Given as goal

abbrev pub invariant-loop-i : goal.invariant-loop-i
invariant-loop-i l = record {
  whole : length l.hops ≡ hops_most;
  read : read-so-far l.line l.hops l.n l.i ≡ hop_fields l.n (drop head_columns l.line);
}
