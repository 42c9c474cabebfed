-- `flow_store::is_packed` meets its contract. The invariant: the slots before this one are packed, and their entries end at `end`.
use Rattle.std.proofs.Common.{◌+◌, sym, ap, ◌∙◌, subst, arith}
use Rattle.flow_store.proofs.StartLaws.{PackedTo, packed-first, packed-free, packed-held, packed_all, start-wrong, path-past}
use Rattle.flow_store.proofs.is_packed.Goals as goal
use Rattle.flow_store.proofs.is_packed.Goals.{then-is_held+else-start_at-end+else-past, else-is_held}

pub loop-slot-init : goal.loop-slot-init
loop-slot-init c = packed-first c.args.bits.now c.args.store.now

pub returns-then-start_at-end-clause-fact : goal.returns-then-start_at-end-clause-fact
returns-then-start_at-end-clause-fact c =
    λ e. start-wrong _ _ c.loop-slot.invariant c.loop-slot-test.true (sym c.is_held.ensures ∙ c.if-is_held.true)
    (λ same. c.if-start_at-end.true (c.start_at.ensures.0 ∙ same))

pub returns-then-past-clause-fact : goal.returns-then-past-clause-fact
returns-then-past-clause-fact c =
    λ e. path-past _ _ c.loop-slot.invariant c.loop-slot-test.true (sym c.is_held.ensures ∙ c.if-is_held.true) (omega arith)

pub loop-slot-preserved : goal.loop-slot-preserved
loop-slot-preserved c =
    let bits = c.args.bits.now in
    let store = c.args.store.now in
    elim c.if-is_held.branch [
      | then-is_held+else-start_at-end+else-past w ↦
          subst (PackedTo bits store (c.loop-slot.slot + 1)) (sym (w.end-is ∙ ap (λ n. c.loop-slot.end + n) w.hops_at-end.ensures.0))
          (packed-held bits store c.loop-slot.invariant (sym c.is_held.ensures ∙ w.if-is_held.true) (sym w.start_at.ensures.0 ∙ w.if-start_at-end.false) (omega arith))
      | else-is_held w ↦ subst (PackedTo bits store (c.loop-slot.slot + 1)) (sym w.end-is) (packed-free bits store c.loop-slot.invariant (sym c.is_held.ensures ∙ w.if-is_held.false))
    ]

pub returns-clause-packed : goal.returns-clause-packed
returns-clause-packed c = λ e. packed_all _ _ (omega arith) c.loop-slot.invariant
