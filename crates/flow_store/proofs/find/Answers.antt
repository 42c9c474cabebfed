-- `flow_store::find` meets its contract. The invariant: what is found from this slot on is what is found from the first on.
use Rattle.std.proofs.Common.{◌≡◌, true, false, sym, ◌∙◌, arith, eq-eqb, ne_eqb}
use Rattle.model.specs.Sizes.{slot_count}
use Rattle.model.specs.Reference.{holds}
use Rattle.flow_store.proofs.ScanLaws.{named, holds_named, scan-found, scan-on, scan-end, scan-whole, scan-skip}
use Rattle.flow_store.proofs.find.Goals as goal
use Rattle.flow_store.proofs.find.Goals.{else-store-slot-via-then-store-slot+else-is_held, else-store-slot-via-else-store-slot}

pub loop-slot-init : goal.loop-slot-init
loop-slot-init c =
    scan-skip c.args.number c.args.bits.now c.args.store.now c.skip_others-slot.result c.skip_others-slot.ensures.0 c.skip_others-slot.ensures.1

pub returns-then-is_held : goal.returns-then-is_held
returns-then-is_held c =
    let number = c.args.number in
    let bits = c.args.bits.now in
    let store = c.args.store.now in
    let here : named number bits store c.loop-slot.slot ≡ true = simp (eq-eqb _ _ c.if-store-slot.true, sym c.is_held.ensures ∙ c.if-is_held.true) in (
      c.loop-slot-test.true,
      sym (scan-found (holds number) bits store (named number bits store) (holds_named number bits store) c.loop-slot.slot (omega arith) here)
          ∙ c.loop-slot.invariant
          ∙ scan-whole (holds number) bits store,
    )

pub loop-slot-preserved : goal.loop-slot-preserved
loop-slot-preserved c =
    let number = c.args.number in
    let bits = c.args.bits.now in
    let store = c.args.store.now in
    let not-here : named number bits store c.loop-slot.slot ≡ false =
    elim c.else-store-slot.branch [
      | else-store-slot-via-then-store-slot+else-is_held w ↦ simp (eq-eqb _ _ w.if-store-slot.true, sym w.is_held.ensures ∙ w.if-is_held.false)
      | else-store-slot-via-else-store-slot w ↦ simp (ne_eqb _ _ w.if-store-slot.false)
    ] in
    sym (scan-on (holds number) bits store (named number bits store) (holds_named number bits store) c.loop-slot.slot (omega arith) not-here)
    ∙ c.loop-slot.invariant

pub returns : goal.returns
returns c =
    let number = c.args.number in
    let bits = c.args.bits.now in
    let store = c.args.store.now in
    let all : c.loop-slot.slot ≡ slot_count = omega arith in
    sym (scan-whole (holds number) bits store)
    ∙ sym c.loop-slot.invariant
    ∙ scan-end (holds number) bits store (named number bits store) (holds_named number bits store) c.loop-slot.slot all
    ∙ all
