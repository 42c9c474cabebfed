-- `recording::refusal_line` meets its contract: two fields in a line already begun.
use Prim.Native.Nat.{ℕ}
use mathlib.Core.Path.{refl, ap, ap₂, ◌∙◌}
use mathlib.Core.List.{List, [], ◌∷◌, append_assoc}
use Rattle.model.specs.Columns.{justified, written_at}
use Rattle.model.proofs.Laws.Answers.{justified-length}
use Rattle.columns.proofs.PartLaws.{field_next}
use Rattle.recording.specs.Replay.{refusal_line}
use Rattle.recording.proofs.refusal_line.Goals as goal

-- The line begun.
abbrev begun : List ℕ
begun = 32 ∷ 32 ∷ 32 ∷ 32 ∷ 32 ∷ 32 ∷ 32 ∷ 32 ∷ 32 ∷ 10 ∷ []

pub returns : goal.returns
unfolding refusal_line
returns c =
    let code = c.from.result in
    let line = c.args.line in
    c.write_at-2.ensures
    ∙ ap₂ (written_at 4 9) c.from-3.ensures
    (c.write_at.ensures ∙ ap (λ (n : ℕ). written_at 1 3 n begun) c.from-2.ensures ∙ field_next [] begun 0 3 code refl)
    ∙ field_next (justified 3 code) begun 3 6 line (justified-length 3 code)
    ∙ append_assoc (justified 3 code) (justified 6 line) (10 ∷ [])
    ∙ ap (λ (n : ℕ). refusal_line n line) c.from.ensures
