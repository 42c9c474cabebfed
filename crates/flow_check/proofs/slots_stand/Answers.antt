-- `flow_check::slots_stand` meets its contract. The invariant: the slots before this one stand, and their numbers are marked.
use mathlib.Core.Path.{◌≡◌, sym, ◌∙◌}
use mathlib.Core.Bool.{true}
use mathlib.Core.Option.{none}
use native.Mathlib.Omega.{arith}
use lib.ListN.{get_or}
use Rattle.model.proofs.Laws.List.{before-next}
use Rattle.queue_table.specs.View.{table_of}
use Rattle.flow_store.specs.View.{slots_of}
use Rattle.flow_store.specs.Laws.{length-slots}
use Rattle.flow_check.specs.View.{slot_alone}
use Rattle.flow_check.proofs.HeldLaws.{slots-alone, not-alone}
use Rattle.flow_check.proofs.slots_stand.Goals as goal

pub returns-then-not-slot_stands : goal.returns-then-not-slot_stands
returns-then-not-slot_stands c =
    let args = c.args in
    sym (not-alone (table_of args.table.now) (slots_of args.bits.now args.store.now) c.loop-slot.slot (sym c.slot_stands.ensures.value ∙ c.if-not-slot_stands.true))

pub loop-slot-preserved : goal.loop-slot-preserved
loop-slot-preserved c =
    let args = c.args in
    let all = slots_of args.bits.now args.store.now in
    let stood : c.slot_stands.result ≡ true = c.if-not-slot_stands.false in
    (c.slot_stands.ensures.marked stood, before-next (λ j. slot_alone (table_of args.table.now) all j (get_or all j none) ≡ true) c.loop-slot.slot c.loop-slot.invariant.1 (sym c.slot_stands.ensures.value ∙ stood))

pub returns : goal.returns
returns c =
    let args = c.args in
    sym
    (slots-alone (table_of args.table.now) (slots_of args.bits.now args.store.now)
    (λ j h. c.loop-slot.invariant.1 j (omega (arith, length-slots args.bits.now args.store.now))))
