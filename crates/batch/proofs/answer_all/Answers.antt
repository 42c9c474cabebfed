-- `batch::answer_all` meets its contract. The invariant: what stands written, what the lines left say and the untouched rest are the area in the end.
use Rattle.std.proofs.Common.{◌+◌, ◌-◌, length, ap, ◌∙◌}
use borrow.Rule.Slice.PartMut.{put_mid}
use Rattle.model.specs.Sizes.{answer_bytes}
use Rattle.model.specs.Answers.{answer_line}
use Rattle.admission.specs.View.{answer_of}
use Rattle.columns.proofs.PartLaws.{text-put}
use Rattle.batch.proofs.AnswerLaws.{answering-first, room-left, answering-next, answering-last}
use Rattle.batch.proofs.answer_all.Goals as goal

pub loop-line-init : goal.loop-line-init
loop-line-init c =
    let args = c.args in
    answering-first args.orders.now _ args.table.now args.bits.now args.store.now args.figures.now args.answers.now
    (c.into_iter-line-iterator.ensures.into_iter_gives ∙ c.lines-line-items.ensures) c.requires.consistent_arrays c.requires.answerable

pub loop-line-preserved : goal.loop-line-preserved
loop-line-preserved c =
    let at = c.loop-line in
    let first = c.in-Some.ensures.steps in
    let line = answer_line (at.number + 1) (answer_of c.carry_out-answer.result) in
    answering-next at.invariant first c.carry_out-answer.ensures _
    (ap (put_mid at.offset (length at.answers - at.offset) at.answers) c.write_line.ensures ∙ text-put at.answers line at.offset answer_bytes (room-left at.invariant first).0)

pub returns : goal.returns
returns c = answering-last c.loop-line.invariant c.in-None.ensures.steps.0
