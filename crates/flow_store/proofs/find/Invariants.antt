-- `flow_store::find` meets its contract. The invariant: what is found from this slot on is what is found from the first on.
use Rattle.std.proofs.Common.{◌≡◌}
use Rattle.model.specs.Reference.{holds}
use Rattle.flow_store.proofs.ScanLaws.{found}
use Rattle.flow_store.proofs.find.Given as goal

abbrev pub invariant-loop-slot : goal.invariant-loop-slot
invariant-loop-slot l = found (holds l.number) l.bits l.store l.slot ≡ found (holds l.number) l.bits l.store 0
