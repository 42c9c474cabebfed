-- `flow_store::block_names` meets its contract. The invariant: where none was found the slots so far have other numbers.
use Rattle.std.proofs.Common.{◌≡◌, ℕ, ◌<◌, get_or, false}
use Rattle.flow_store.proofs.block_names.Given as goal

abbrev pub invariant-loop-own : goal.invariant-loop-own
invariant-loop-own l = l.any ≡ false → (k : ℕ) → k < l.own-index → get_or l.own-items k 0 ≡ l.number → ⊥
