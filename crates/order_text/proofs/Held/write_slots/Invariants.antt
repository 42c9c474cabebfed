-- `order_text::Held::write_slots` meets its contract: the lines of the slots that are left go to `at`, slot by slot.
use mathlib.Core.List.{◌++◌}
use lib.ListN.{length, drop}
use Rattle.model.specs.Words.{joined}
use Rattle.columns.proofs.PartLaws.{Filling}
use Rattle.order_text.specs.View.{slot_text}
use Rattle.order_text.proofs.Held.write_slots.Given as goal

abbrev pub invariant-loop-slot : goal.invariant-loop-slot
invariant-loop-slot l =
    Filling (joined slot_text l.self ++ drop (length (joined slot_text l.self)) l.initial.area) (joined slot_text (drop l.slot l.self)) l.area (length l.initial.area) l.at
