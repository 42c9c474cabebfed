-- `batch::answer_all` meets its contract. The invariant: what stands written, what the lines left say and the untouched rest are the area in the end.
use lib.ListN.{length}
use Rattle.model.specs.Columns.{lines}
use Rattle.model.specs.Batch.{done_batch}
use Rattle.admission.specs.View.{state_of}
use Rattle.batch.proofs.AnswerLaws.{Answering}
use Rattle.batch.proofs.answer_all.Given as goal

abbrev pub invariant-loop-line : goal.invariant-loop-line
invariant-loop-line l =
    Answering (done_batch (state_of l.table l.initial.bits l.initial.store) (lines l.orders) l.initial.answers).area l.line-iterator l.table l.bits l.store l.figures (length l.initial.answers) l.answers l.number l.offset
