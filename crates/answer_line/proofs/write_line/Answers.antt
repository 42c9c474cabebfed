-- `answer_line::write_line` meets its contract: the line is begun, its number written, then the part after it.
use Prim.Native.Nat.{ℕ, ◌-◌}
use mathlib.Core.Path.{◌≡◌, ap, ◌∙◌}
use mathlib.Core.List.{List}
use native.Mathlib.Omega.{arith}
use lib.ListN.{length, drop, set, length-drop}
use lib.Seq.{take_all}
use borrow.Rule.Slice.PartMut.{put_mid}
use Rattle.model.specs.Columns.{written_at}
use Rattle.model.specs.Answers.{answer_columns}
use Rattle.admission.specs.View.{answer_of}
use Rattle.columns.proofs.PartLaws.{part-written}
use Rattle.answer_line.proofs.FieldLaws.{begun-length, line-filled}
use Rattle.answer_line.proofs.write_line.Goals as goal
use Rattle.answer_line.proofs.write_line.Tie as tie
use Rattle.answer_line.proofs.write_line.Lts as lts
use Rattle.answer_line.proofs.write_line.Reads as reads

-- The line with its LF and its number.
module _ (c : lts.After-write_at tie.the-claims reads.Pre reads.Post) where
  abbrev start : lts.Start tie.the-claims reads.Pre reads.Post
  start = c.before.before.before.before

  abbrev begun : List ℕ
  begun = c.write_at.new.line

  is : begun ≡ written_at 1 6 start.args.number (set start.args.line.now 19 10)
  is = c.write_at.ensures ∙ ap (λ (n : ℕ). written_at 1 6 n (set start.args.line.now 19 10)) c.from.ensures

  long : length begun ≡ length start.args.line.now
  long = begun-length start.args.line.now begun start.args.number start.requires is

pub write_answer-requires : goal.write_answer-requires
write_answer-requires c =
    let at = c.before.before.before in
    rw (take_all (length (begun at) - 6) (drop 6 (begun at)) (simp length-drop (omega arith))) (simp length-drop (omega (arith, long at, (start at).requires)))

pub returns : goal.returns
returns c =
    let at = c.before.before.before.before.before.before.before in
    let a = answer_of (start at).args.answer in
    ap (put_mid 6 (length (begun at) - 6) (begun at)) c.write_answer.ensures
    ∙ part-written (begun at) 6 19 (answer_columns a) (omega arith) (omega (arith, long at, (start at).requires))
    ∙ line-filled (start at).args.line.now (begun at) (start at).args.number (start at).requires (is at) a
