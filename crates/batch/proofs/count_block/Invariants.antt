-- `batch::count_block` meets its contract: the LFs counted so far.
use Rattle.std.proofs.Common.{◌≡◌, ◌≤◌, count_by, take}
use Rattle.batch.specs.View.{is_lf}
use Rattle.batch.proofs.count_block.Given as goal

abbrev pub invariant-loop-byte : goal.invariant-loop-byte
invariant-loop-byte l = record { most : l.count ≤ l.byte-index; counted : l.count ≡ count_by is_lf (take l.byte-index l.block) }
