-- `offer_list::answer_steps` meets its contract: before each line the answers to those that are left go on from what is written (`Answering`).
use Rattle.std.proofs.Common.{◌-◌, length, refl, ap}
use Rattle.std.specs.Prelude.{Some, None}
use borrow.Rule.Slice.PartMut.{put_mid}
use Rattle.columns.proofs.PartLaws.{part-long}
use Rattle.sender_gate.specs.View.{gate_of, answer_of}
use Rattle.offer_list.specs.View.{gate_line_bytes}
use Rattle.offer_list.proofs.ListLaws.{step-found, answering-first, answering-next, answer-room, end-room, answering-broken, answering-last}
use Rattle.offer_list.proofs.answer_steps.Goals as goal

pub loop-line-init : goal.loop-line-init
loop-line-init c =
    let args = c.args in
    answering-first args.offers _ args.part.now (gate_of args.first) args.reading (c.into_iter-line-iterator.ensures.into_iter_gives) c.requires.room

pub write_end-requires : goal.write_end-requires
write_end-requires c =
    let found = step-found c.in-Some.line None c.in-Some.ensures.steps c.in_default.ensures in
    part-long c.loop-line.part c.loop-line.filled 14 (end-room c.loop-line.invariant found)

pub write_answer-requires : goal.write_answer-requires
write_answer-requires c =
    let found = step-found c.in-Some.line (Some c.in-Some-and_then.step) c.in-Some.ensures.steps c.in-Some-and_then.ensures in
    part-long c.loop-line.part c.loop-line.filled gate_line_bytes (answer-room c.loop-line.invariant found)

pub loop-line-preserved : goal.loop-line-preserved
loop-line-preserved c =
    let at = c.loop-line in
    let found = step-found c.in-Some.line (Some c.in-Some-and_then.step) c.in-Some.ensures.steps c.in-Some-and_then.ensures in
    answering-next at.invariant found _ refl (answer_of c.offer-answer.result) c.offer-answer.ensures _
    (ap (put_mid at.filled (length at.part - at.filled) at.part) c.write_answer.ensures)

pub returns-in_default : goal.returns-in_default
returns-in_default c =
    let at = c.loop-line in
    let found = step-found c.in-Some.line None c.in-Some.ensures.steps c.in_default.ensures in
    let done = answering-broken at.invariant found _ (ap (put_mid at.filled (length at.part - at.filled) at.part) c.write_end.ensures) in
    record { part_after = done.0; value = done.1 }

pub returns : goal.returns
returns c =
    let done = answering-last c.loop-line.invariant c.in-None.ensures.steps.0 in
    record { part_after = done.0; value = done.1 }
