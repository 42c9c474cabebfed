-- `recount::raise_frames` meets its contract. The invariant: the figures so far, raised by what the slots left have, are the whole.
use Rattle.recount.proofs.FrameLaws.{Raising}
use Rattle.recount.proofs.raise_frames.Given as goal

abbrev pub invariant-loop-slot : goal.invariant-loop-slot
invariant-loop-slot l = Raising l.bits l.store l.initial.figures l.figures l.slot
