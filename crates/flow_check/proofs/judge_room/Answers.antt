-- `flow_check::judge_room` meets its contract: 30, then 31. The least clear bit is the lowest free slot, and the position where the
-- last held path ends is the count of the held entries. Assumes nothing.
use Prim.Native.Nat.{ℕ}
use mathlib.Core.Path.{◌≡◌, sym, ◌∙◌, ap, subst}
use mathlib.Core.Bool.{not}
use mathlib.Core.List.{List}
use native.Mathlib.Omega.{arith}
use borrow.Author.Tests.{lt-ltb, le-ltb}
use lib.Dec.{ltb}
use Rattle.model.specs.Words.{every, first_index, is_none}
use Rattle.model.specs.Sizes.{slot_count}
use Rattle.model.specs.Reference.{is_held}
use Rattle.model.proofs.Laws.Slot.{held-index}
use Rattle.bit_words.specs.View.{LeastClear}
use Rattle.flow_store.specs.View.{PackedStore, slots_of}
use Rattle.flow_store.specs.Laws.{length-slots}
use Rattle.flow_store.proofs.ViewLaws.{held-hops}
use Rattle.flow_store.proofs.ScanLaws.{lowest-free}
use Rattle.flow_check.proofs.CauseLaws.{room-slots, room-hops, room-left}
use Rattle.flow_check.proofs.judge_room.Goals as goal

-- Whether all slots are held is whether no free one was found.
full : (bits store : List ℕ) (slot : ℕ) → PackedStore bits store → LeastClear bits slot → every is_held (slots_of bits store) ≡ not (ltb slot slot_count)
full bits store slot stored least =
    held-index (slots_of bits store)
    ∙ ap not
    (ap (ltb (first_index is_none (slots_of bits store))) (length-slots bits store)
    ∙ ap (λ (i : ℕ). ltb i slot_count) (sym (lowest-free bits store slot stored.bits-long least)))

pub returns-then-slot-ge-SLOTS : goal.returns-then-slot-ge-SLOTS
returns-then-slot-ge-SLOTS c =
    let bits = c.args.bits.now in
    let store = c.args.store.now in
    record {
      first = λ f long. sym (room-slots (slots_of bits store) f (full bits store _ c.requires.0 c.first_free-slot.ensures ∙ ap not (le-ltb _ slot_count c.if-slot-ge-SLOTS.true)));
      slot = subst (LeastClear bits) (omega arith) c.first_free-slot.ensures;
    }

pub returns-then-hops-held_entries : goal.returns-then-hops-held_entries
returns-then-hops-held_entries c =
    let bits = c.args.bits.now in
    let store = c.args.store.now in
    let free = full bits store _ c.requires.0 c.first_free-slot.ensures ∙ ap not (lt-ltb _ slot_count c.if-slot-ge-SLOTS.false) in
    record {
      first = λ f long. sym (room-hops (slots_of bits store) f free (omega (arith, c.if-hops-held_entries.true, c.held_entries.ensures, held-hops bits store c.requires.0, long, c.requires.1)));
      slot = subst (LeastClear bits) (omega arith) c.first_free-slot.ensures;
    }

pub returns : goal.returns
returns c =
    let bits = c.args.bits.now in
    let store = c.args.store.now in
    let free = full bits store _ c.requires.0 c.first_free-slot.ensures ∙ ap not (lt-ltb _ slot_count c.if-slot-ge-SLOTS.false) in
    record {
      first = λ f long. sym (room-left (slots_of bits store) f free (omega (arith, c.if-hops-held_entries.false, c.held_entries.ensures, held-hops bits store c.requires.0, long, c.requires.1)));
      slot = c.first_free-slot.ensures;
    }
