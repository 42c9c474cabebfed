-- `answer_line::write_answer` meets its contract: the fields are written one after the other.
use mathlib.Core.Path.{ap, ap₂, ◌∙◌}
use mathlib.Core.List.{◌++◌}
use Prim.Native.Nat.{ℕ}
use lib.ListN.{drop}
use Rattle.model.specs.Columns.{written_at}
use Rattle.model.specs.Reference.{Answer}
use Rattle.model.specs.Answers.{answer_columns}
use Rattle.answer_line.specs.View.{fields_of}
use Rattle.answer_line.proofs.FieldLaws.{answer-written}
use Rattle.answer_line.proofs.write_answer.Goals as goal

pub returns : goal.returns
returns c =
    let part = c.args.part.now in
    let fields = c.from-fields in
    c.write_at-4.ensures
    ∙ ap₂ (written_at 12 13) c.from-4.ensures
    (c.write_at-3.ensures
    ∙ ap₂ (written_at 8 11) c.from-3.ensures
    (c.write_at-2.ensures
    ∙ ap₂ (written_at 4 7) c.from-2.ensures
    (c.write_at.ensures ∙ ap (λ (n : ℕ). written_at 1 3 n part) c.from.ensures)))
    ∙ answer-written part (fields_of fields.result)
    ∙ ap (λ (a : Answer). answer_columns a ++ drop 13 part) fields.ensures
