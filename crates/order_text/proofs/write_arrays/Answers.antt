-- `order_text::write_arrays` meets its contract: 42 where the arrays aren't consistent, 43 where the text is longer than the area, else the text.
use Rattle.std.proofs.Common.{refl, sym, ◌∙◌, arith}
use Rattle.model.specs.Handover.{refused_writing, done_writing}
use Rattle.model.proofs.Laws.Handover.{writing-short, writing-done}
use Rattle.flow_store.proofs.ViewLaws.{readable}
use Rattle.order_text.specs.View.{text_in, consistent, inconsistent}
use Rattle.order_text.proofs.write_arrays.Goals as goal

pub returns-then-not-is_consistent : goal.returns-then-not-is_consistent
unfolding refused_writing
returns-then-not-is_consistent c = inconsistent (c.is_consistent.ensures.fact c.if-not-is_consistent.true) refl

pub invariant_of-held : goal.invariant_of-held
invariant_of-held c = readable _ _ (c.is_consistent.ensures.consistent_arrays c.if-not-is_consistent.false).stored

pub returns-then-area-bytes : goal.returns-then-area-bytes
unfolding refused_writing
returns-then-area-bytes c =
    let text = text_in c.args.bits.now c.args.store.now in
    consistent (c.is_consistent.ensures.consistent_arrays c.if-not-is_consistent.false) (sym (writing-short text c.args.area.now (omega arith)))

pub returns : goal.returns
unfolding done_writing
returns c =
    let text = text_in c.args.bits.now c.args.store.now in
    consistent (c.is_consistent.ensures.consistent_arrays c.if-not-is_consistent.false)
    ((λ i. record { code = 0; bytes = c.text_bytes-bytes.ensures i; area = c.write_slots.ensures i })
    ∙ sym (writing-done text c.args.area.now (omega arith)))
