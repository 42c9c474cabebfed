-- `offer_list::write_answer` meets its contract: the fields are written one after the other, then LF.
use Rattle.std.proofs.Common.{ℕ, List, set, ap, ◌∙◌}
use Rattle.model.specs.Columns.{written_at}
use Rattle.sender_gate.specs.View.{answer_of}
use Rattle.offer_list.proofs.ListLaws.{gate-line-written}
use Rattle.offer_list.proofs.write_answer.Goals as goal

pub returns : goal.returns
returns c =
    let args = c.args in
    ap (λ (t : List ℕ). set t 17 10)
    (c.write_at-2.ensures
    ∙ ap (written_at 4 17 args.answer.gate.tokens.0)
    (c.write_at.ensures ∙ ap (λ (n : ℕ). written_at 1 3 n args.part.now) c.from.ensures))
    ∙ gate-line-written args.part.now (answer_of args.answer) c.requires
