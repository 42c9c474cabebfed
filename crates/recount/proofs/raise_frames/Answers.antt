-- `recount::raise_frames` meets its contract. The invariant: the figures so far, raised by what the slots left have, are the whole.
use native.Mathlib.Omega.{arith}
use Rattle.recount.proofs.FrameLaws.{raising-none, raising-next, raising-all}
use Rattle.recount.proofs.raise_frames.Goals as goal

pub loop-slot-init : goal.loop-slot-init
loop-slot-init c = raising-none _ _ _ c.requires.readable.1

pub loop-slot-preserved : goal.loop-slot-preserved
loop-slot-preserved c = raising-next _ _ _ c.loop-slot.invariant (omega arith) c.raise_slot.ensures

pub returns : goal.returns
returns c = raising-all _ _ _ c.loop-slot.invariant (omega arith)
