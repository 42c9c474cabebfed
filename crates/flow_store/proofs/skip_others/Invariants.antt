-- `flow_store::skip_others` meets its contract. The invariant: no slot before the next block has the number.
use Rattle.std.proofs.Common.{◌≡◌, ◌-◌, ◌%◌, ◌≤◌}
use Rattle.model.specs.Sizes.{slot_count}
use Rattle.flow_store.specs.View.{block_slots, OthersFrom}
use Rattle.flow_store.proofs.skip_others.Given as goal

abbrev pub invariant-loop-from : goal.invariant-loop-from
invariant-loop-from l = (l.from ≤ slot_count) × (l.from % block_slots ≡ 0) × OthersFrom l.number l.store 0 l.from

abbrev pub decreases-loop-from : goal.decreases-loop-from
decreases-loop-from l = slot_count - l.from
