-- `order_text::Held::write_slots` meets its contract: the lines of the slots that are left go to `at`, slot by slot.
use Prim.Native.Nat.{ℕ, ◌-◌}
use mathlib.Core.Path.{ap, ◌∙◌}
use mathlib.Core.List.{List, ◌++◌}
use mathlib.Core.Option.{none}
use native.Mathlib.Omega.{arith}
use lib.ListN.{length, drop}
use borrow.Rule.Slice.PartMut.{put_mid}
use Rattle.model.specs.Words.{joined}
use Rattle.columns.proofs.PartLaws.{part-long, filling-first, filling-last}
use Rattle.order_text.specs.View.{slot_text}
use Rattle.order_text.proofs.TextLaws.{joined-past, piece-room, piece-next, slots-text}
use Rattle.order_text.proofs.Held.write_slots.Goals as goal

pub loop-slot-init : goal.loop-slot-init
loop-slot-init c =
    let slots = c.args.self.now in
    filling-first (joined slot_text slots) c.args.area.now (omega (arith, ap length (slots-text slots)))

pub write_slot-at-requires : goal.write_slot-at-requires
write_slot-at-requires c =
    let now = c.loop-slot in
    (omega arith, part-long now.area now.at _ (piece-room slot_text c.args.self.now now.slot none (omega arith) now.invariant))

pub loop-slot-preserved : goal.loop-slot-preserved
loop-slot-preserved c =
    let now = c.loop-slot in
    let line = c.write_slot-at in
    piece-next slot_text c.args.self.now now.slot none (omega arith) now.invariant line.result line.ensures.value _
    (ap (put_mid now.at (length now.area - now.at) now.area) line.ensures.part_after)

pub returns : goal.returns
returns c =
    let slots = c.args.self.now in
    filling-last c.loop-slot.invariant (joined-past slot_text slots c.loop-slot.slot (omega arith))
    ∙ ap (λ (t : List ℕ). t ++ drop (length t) c.args.area.now) (slots-text slots)
