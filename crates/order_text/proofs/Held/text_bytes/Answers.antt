-- `order_text::Held::text_bytes` meets its contract: with the bytes of the slots that are left it is the whole text's.
use Prim.Native.Nat.{◌+◌}
use mathlib.Core.Path.{ap}
use mathlib.Core.Option.{none}
use native.Mathlib.Omega.{arith}
use lib.ListN.{length, get_or, drop, length-append}
use Rattle.model.specs.Words.{joined}
use Rattle.order_text.specs.View.{slot_text}
use Rattle.order_text.proofs.TextLaws.{joined-next, joined-past, slots-text}
use Rattle.order_text.proofs.Held.text_bytes.Goals as goal

pub loop-slot-preserved : goal.loop-slot-preserved
loop-slot-preserved c =
    let slots = c.args.self.now in
    let slot = c.loop-slot.slot in
    let next = joined-next slot_text slots slot none (omega arith) in
    record {
      small = omega arith;
      counted = omega (arith, ap length next, length-append (slot_text (get_or slots slot none)) (joined slot_text (drop (slot + 1) slots)));
    }

pub returns : goal.returns
returns c =
    let slots = c.args.self.now in
    omega (arith, ap length (joined-past slot_text slots c.loop-slot.slot (omega arith)), ap length (slots-text slots))
