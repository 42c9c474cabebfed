-- `flow_store::move_starts` meets its contract. The invariant: the starts before position i have moved, and nothing else has.
use Rattle.flow_store.proofs.StartLaws.{MovedTo}
use Rattle.flow_store.proofs.move_starts.Given as goal

abbrev pub invariant-loop-i : goal.invariant-loop-i
invariant-loop-i l = MovedTo l.from l.by l.initial.store l.store l.i
