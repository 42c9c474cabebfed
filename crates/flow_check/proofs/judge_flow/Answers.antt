-- `flow_check::judge_flow` meets its contract: 12 and 17 come before what the path is judged by.
use Prim.Native.Nat.{ℕ}
use mathlib.Core.Path.{◌≡◌, sym, ◌∙◌, ap}
use mathlib.Core.List.{List}
use native.Mathlib.Omega.{arith}
use borrow.Author.Tests.{lt-ltb, le-ltb}
use lib.Dec.{leb, ltb}
use Rattle.std.specs.Prelude.{Some, None, is_some, true, false}
use Rattle.std.specs.Prelude as code
use Rattle.model.specs.Words.{first_index}
use Rattle.model.specs.Sizes.{slot_count}
use Rattle.model.specs.Orders.{flow_of}
use Rattle.model.specs.Reference.{State, with_number, held_flows, holds}
use Rattle.model.proofs.Laws.Slot.{number-index}
use Rattle.flow_store.specs.View.{slots_of, FoundSlot}
use Rattle.flow_store.specs.Laws.{length-slots}
use Rattle.queue_table.specs.View.{table_of}
use Rattle.orders.specs.View.{line_flow}
use Rattle.flow_check.proofs.CauseLaws.{early-held, early-frame, early-path}
use Rattle.flow_check.proofs.judge_flow.Goals as goal

-- The table and the slots.
abbrev state : (table bits store : List ℕ) → State
state table bits store = record { table = table_of table; slots = slots_of bits store }

-- Whether the number is held is whether its slot was found.
within : (first : ℕ) (r : code.Option ℕ) → FoundSlot first r → ltb first slot_count ≡ is_some r
within first (Some slot) found = lt-ltb first slot_count (rw (← found.1) found.0)
within first None found = le-ltb first slot_count (omega (arith, found))

held : (bits store : List ℕ) (number : ℕ) (r : code.Option ℕ) → FoundSlot (first_index (holds number) (slots_of bits store)) r
    → leb 1 (with_number number (held_flows (slots_of bits store))) ≡ is_some r
held bits store number r found =
    number-index number (slots_of bits store)
    ∙ ap (ltb (first_index (holds number) (slots_of bits store))) (length-slots bits store)
    ∙ within _ r found

pub returns-then-is_some : goal.returns-then-is_some
unfolding flow_of
returns-then-is_some c =
    let args = c.args in
    let told : is_some c.find.result ≡ true = grind arith in
    record {
      first = sym (early-held (state args.table.now args.bits.now args.store.now) (line_flow args.flow args.hops.now)
          (held args.bits.now args.store.now args.flow.number c.find.result c.find.ensures ∙ told));
      named = tt;
    }

pub returns-then-flow : goal.returns-then-flow
unfolding flow_of
returns-then-flow c =
    let args = c.args in
    let told : is_some c.find.result ≡ false = grind arith in
    record {
      first = sym (early-frame (state args.table.now args.bits.now args.store.now) (line_flow args.flow args.hops.now)
          (held args.bits.now args.store.now args.flow.number c.find.result c.find.ensures ∙ told) (lt-ltb _ _ c.if-flow.true));
      named = tt;
    }

pub returns : goal.returns
unfolding flow_of
returns c =
    let args = c.args in
    let told : is_some c.find.result ≡ false = grind arith in
    record {
      first = c.judge_path.ensures.first ∙ sym (early-path (state args.table.now args.bits.now args.store.now) (line_flow args.flow args.hops.now)
          (held args.bits.now args.store.now args.flow.number c.find.result c.find.ensures ∙ told) (le-ltb _ _ c.if-flow.false));
      named = c.judge_path.ensures.named;
    }
