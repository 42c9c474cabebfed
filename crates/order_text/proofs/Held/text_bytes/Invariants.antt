-- `order_text::Held::text_bytes` meets its contract: with the bytes of the slots that are left it is the whole text's.
use Prim.Native.Nat.{ℕ, ◌+◌, ◌*◌, ◌^◌, ◌≤◌}
use mathlib.Core.Path.{◌≡◌}
use mathlib.Core.List.{List}
use lib.ListN.{length, drop}
use Rattle.model.specs.Words.{joined}
use Rattle.model.specs.Reference.{Slot}
use Rattle.order_text.specs.View.{slot_text}
use Rattle.order_text.proofs.Held.text_bytes.Given as goal

-- The bytes so far.
pub record Counted (slots : List Slot) (bytes slot : ℕ) : Type 0 where
  pub small : bytes ≤ slot * 2 ^ 36
  pub counted : bytes + length (joined slot_text (drop slot slots)) ≡ length (joined slot_text slots)

abbrev pub invariant-loop-slot : goal.invariant-loop-slot
invariant-loop-slot l = Counted l.self l.bytes l.slot
