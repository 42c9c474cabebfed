-- `batch::count_lines` meets its contract. The invariant: the lines counted so far and the LFs of the blocks that are left are all lines.
use Rattle.std.proofs.Common.{◌≡◌, ◌+◌, ◌≤◌, count_by, length}
use Rattle.std.specs.Slice.Iter.{chunks_rest, chunks_size}
use Rattle.model.specs.Columns.{lines}
use Rattle.batch.specs.View.{is_lf}
use Rattle.batch.proofs.count_lines.Given as goal

abbrev pub invariant-loop-block : goal.invariant-loop-block
invariant-loop-block l =
    record {
      size : chunks_size l.block-iterator ≡ 128;
      most : l.count + length (chunks_rest l.block-iterator) ≤ length l.text;
      counted : l.count + count_by is_lf (chunks_rest l.block-iterator) ≡ length (lines l.text);
    }
