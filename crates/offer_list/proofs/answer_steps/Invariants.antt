-- `offer_list::answer_steps` meets its contract: before each line the answers to those that are left go on from what is written (`Answering`).
use Rattle.model.specs.OfferList.{steps_text}
use Rattle.sender_gate.specs.View.{gate_of}
use Rattle.offer_list.proofs.ListLaws.{Answering}
use Rattle.offer_list.proofs.answer_steps.Given as goal

abbrev pub invariant-loop-line : goal.invariant-loop-line
invariant-loop-line l =
    Answering l.fn.offers (steps_text 2 l.reading (gate_of l.initial.gate) l.fn.offers) l.initial.part l.part l.line-iterator (gate_of l.gate) l.clock l.number l.filled
