-- `recording::answer_call` meets its contract: the columns of the answer, then LF.
use Prim.Native.Nat.{ℕ}
use mathlib.Core.Path.{◌∙◌, ap}
use mathlib.Core.List.{List}
use lib.ListN.{set}
use Rattle.admission.specs.View.{answer_of}
use Rattle.model.specs.Answers.{answer_columns}
use Rattle.model.proofs.Laws.Answers.{columns-length}
use Rattle.columns.proofs.PartLaws.{byte_next}
use Rattle.recording.proofs.answer_call.Goals as goal

pub returns-clause-part_after : goal.returns-clause-part_after
returns-clause-part_after g c =
    let answer = answer_of c.step-called.result.answer in
    ap (λ (l : List ℕ). set l 13 10) c.write_answer.ensures ∙ byte_next (answer_columns answer) c.args.part.now 13 10 (columns-length answer) c.requires.room
