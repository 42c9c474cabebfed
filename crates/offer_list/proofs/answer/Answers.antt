-- `offer_list::answer` meets its contract: by what is found in the first line.
use Rattle.std.proofs.Common.{ℕ, List, ◌++◌, length, drop, sym, ap, ◌∙◌, arith}
use Rattle.std.specs.Prelude.{Some, None}
use Rattle.columns.proofs.LineLaws.{few_lines}
use Rattle.offer_list.proofs.ListLaws.{opening-found, unopened, end-line-long, no_text}
use Rattle.offer_list.proofs.answer.Goals as goal

pub returns-in_default : goal.returns-in_default
returns-in_default c =
    let nothing = no_text c.args.text.now (sym c.lines-lines.ensures ∙ c.in_default.ensures.steps.0) in
    record { area_after = ap (λ (t : List ℕ). t ++ c.args.area.now) (sym nothing); value = sym (ap length nothing) }

pub write_end-requires : goal.write_end-requires
write_end-requires c =
    let text = opening-found c.args.text.now _ c.in-Some.line None (sym c.lines-lines.ensures ∙ c.in-Some.ensures.steps) c.in_default-and_then.ensures ∙ unopened _ in
    omega (arith, c.requires, ap length text, end-line-long 1)

pub returns-in_default-and_then : goal.returns-in_default-and_then
returns-in_default-and_then c =
    let text = opening-found c.args.text.now _ c.in-Some.line None (sym c.lines-lines.ensures ∙ c.in-Some.ensures.steps) c.in_default-and_then.ensures ∙ unopened _ in
    record { area_after = c.write_end.ensures ∙ ap (λ (t : List ℕ). t ++ drop 14 c.args.area.now) (sym text); value = sym (ap length text ∙ end-line-long 1) }

pub answer_opening-requires : goal.answer_opening-requires
answer_opening-requires c =
    let all = sym c.lines-lines.ensures ∙ c.in-Some.ensures.steps in
    let text = opening-found c.args.text.now _ c.in-Some.line (Some c.in-Some-and_then.opening) all c.in-Some-and_then.ensures in
    record { few = omega (arith, few_lines c.args.text.now, ap length all); room = omega (arith, c.requires, ap length text) }

pub returns : goal.returns
returns c =
    let opened = c.answer_opening in
    let text = opening-found c.args.text.now _ c.in-Some.line (Some c.in-Some-and_then.opening) (sym c.lines-lines.ensures ∙ c.in-Some.ensures.steps) c.in-Some-and_then.ensures in
    record {
      area_after = opened.ensures.area_after ∙ ap (λ (t : List ℕ). t ++ drop opened.result c.args.area.now) (sym text);
      value = opened.ensures.value ∙ sym (ap length text);
    }
