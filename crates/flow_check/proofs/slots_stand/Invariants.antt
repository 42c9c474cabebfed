-- `flow_check::slots_stand` meets its contract. The invariant: the slots before this one stand, and their numbers are marked.
use Prim.Native.Nat.{ℕ, ◌<◌}
use mathlib.Core.Path.{◌≡◌}
use mathlib.Core.Bool.{true}
use mathlib.Core.Option.{none}
use lib.ListN.{get_or}
use Rattle.queue_table.specs.View.{table_of}
use Rattle.flow_store.specs.View.{slots_of}
use Rattle.flow_check.specs.View.{slot_alone, Marked}
use Rattle.flow_check.proofs.slots_stand.Given as goal

abbrev pub invariant-loop-slot : goal.invariant-loop-slot
invariant-loop-slot l =
    Marked (slots_of l.bits l.store) l.slot l.marks
    × ((j : ℕ) → j < l.slot → slot_alone (table_of l.table) (slots_of l.bits l.store) j (get_or (slots_of l.bits l.store) j none) ≡ true)
