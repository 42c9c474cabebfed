-- `flow_store::is_packed` meets its contract. The invariant: the slots before this one are packed, and their entries end at `end`.
use Rattle.flow_store.proofs.StartLaws.{PackedTo}
use Rattle.flow_store.proofs.is_packed.Given as goal

abbrev pub invariant-loop-slot : goal.invariant-loop-slot
invariant-loop-slot l = PackedTo l.bits l.store l.slot l.end
