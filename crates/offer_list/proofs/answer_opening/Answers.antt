-- `offer_list::answer_opening` meets its contract: the opening's line, and behind it those of the offers, if it is done.
use Rattle.std.proofs.Common.{ℕ, ◌+◌, ◌-◌, List, ◌++◌, length, drop, sym, ap, ◌∙◌, arith, length-append}
use borrow.Rule.Slice.PartMut.{put_mid}
use Rattle.model.specs.OfferList.{gate_line, steps_text}
use Rattle.columns.proofs.PartLaws.{part-long}
use Rattle.sender_gate.specs.View.{answer_of}
use Rattle.offer_list.specs.View.{gate_line_bytes, opening_of}
use Rattle.offer_list.proofs.ListLaws.{gate-line-long, opened-refused, opened-done, opened-followed, opened-room, line-then}
use Rattle.offer_list.proofs.answer_opening.Goals as goal

pub write_answer-requires : goal.write_answer-requires
write_answer-requires c =
    omega (arith, opened-room (opening_of c.args.opening) c.args.offers (answer_of c.open-opened.result) c.open-opened.ensures, c.requires.room)

pub returns-then-opened-ne0 : goal.returns-then-opened-ne0
returns-then-opened-ne0 c =
    let a = answer_of c.open-opened.result in
    let text = opened-refused (opening_of c.args.opening) c.args.offers a c.open-opened.ensures c.if-opened-ne0.true in
    record { area_after = c.write_answer.ensures ∙ ap (λ (t : List ℕ). t ++ drop gate_line_bytes c.args.area.now) (sym text); value = sym (ap length text ∙ gate-line-long a) }

pub slice_bounds-answer_steps-count : goal.slice_bounds-answer_steps-count
slice_bounds-answer_steps-count c =
    omega (arith, opened-followed (opening_of c.args.opening) c.args.offers (answer_of c.open-opened.result) c.open-opened.ensures c.if-opened-ne0.false _ c.requires.room)

pub slice_bounds-answer_steps-start : goal.slice_bounds-answer_steps-start
slice_bounds-answer_steps-start c =
    omega (arith, opened-followed (opening_of c.args.opening) c.args.offers (answer_of c.open-opened.result) c.open-opened.ensures c.if-opened-ne0.false _ c.requires.room)

pub answer_steps-requires : goal.answer_steps-requires
answer_steps-requires c =
    let followed = opened-followed (opening_of c.args.opening) c.args.offers (answer_of c.open-opened.result) c.open-opened.ensures c.if-opened-ne0.false _ c.requires.room in
    record { few = c.requires.few; room = part-long c.write_answer.new.part gate_line_bytes _ (omega (arith, followed)) }

pub returns : goal.returns
returns c =
    let args = c.args in
    let area = c.write_answer.new.part in
    let a = answer_of c.open-opened.result in
    let steps = c.answer_steps in
    let more = steps_text 2 args.opening.reading a.gate args.offers in
    let text = opened-done (opening_of args.opening) args.offers a c.open-opened.ensures c.if-opened-ne0.false in
    let followed = opened-followed (opening_of args.opening) args.offers a c.open-opened.ensures c.if-opened-ne0.false _ c.requires.room in
    record {
      area_after =
          ap (put_mid gate_line_bytes (length area - gate_line_bytes) area) steps.ensures.part_after
          ∙ line-then args.area.now area (gate_line a) more steps.result (gate-line-long a) c.write_answer.ensures steps.ensures.value (omega (arith, followed, steps.ensures.value))
          ∙ ap (λ (t : List ℕ). t ++ drop (gate_line_bytes + steps.result) args.area.now) (sym text);
      value = omega (arith, steps.ensures.value, ap length text, length-append (gate_line a) more, gate-line-long a);
    }
