-- `order_text::write_line` meets its contract: the head, the path in the part behind it, then LF.
use Prim.Native.Nat.{ℕ, ◌+◌, ◌-◌, ◌*◌}
use mathlib.Core.Path.{ap, sym, ◌∙◌}
use mathlib.Core.List.{List}
use lib.ListN.{length, set}
use borrow.Rule.Slice.PartMut.{put_mid}
use Rattle.model.specs.Sizes.{head_columns, hop_columns}
use Rattle.orders.specs.View.{fields_of}
use Rattle.order_text.proofs.TextLaws.{line-written, line-size}
use Rattle.order_text.proofs.write_line.Goals as goal

pub returns : goal.returns
returns c =
    let entries = c.args.entries.now in record {
      part_after = ap (λ (t : List ℕ). set (put_mid head_columns (length c.write_head.new.part - head_columns) c.write_head.new.part t) (head_columns + hop_columns * length entries) 10) c.write_path.ensures
          ∙ line-written (fields_of c.args.flow) entries c.requires.0 c.args.part.now c.write_head.new.part c.write_head.ensures c.requires.1;
      value = sym (line-size (fields_of c.args.flow) entries c.requires.0);
    }
