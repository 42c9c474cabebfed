-- A slot judged test by test: what the tests of its numbers say of the flow that it holds.
-- Assumes nothing.
use Prim.Native.Nat.{ℕ, ◌+◌, ◌≤◌, ◌<◌}
use mathlib.Core.Path.{◌≡◌, refl, sym, ap, ◌∙◌}
use mathlib.Core.Bool.{Bool, true, false, ◌&&◌, true≢false}
use mathlib.Core.List.{List, ◌∷◌, map}
use mathlib.Core.Option.{Option, none, some}
use native.Mathlib.Omega.{arith}
use borrow.Author.Tests.{eq-eqb, ne_eqb, leb-true, lt-ltb, le-ltb}
use lib.ListN.{length, get_or}
use lib.Dec.{leb, ltb, eqb}
use Rattle.model.specs.Words.{first_index, is_none}
use Rattle.model.specs.Sizes.{number_most, hops_most, slot_count}
use Rattle.model.specs.Columns.{between}
use Rattle.model.specs.Orders as model
use Rattle.model.specs.QueueTable.{Table}
use Rattle.model.proofs.Laws.Test.{and_both}
use Rattle.model.proofs.Laws.Admissible.{flow-bounds}
use Rattle.model.specs.Consistent.{flow_in_range, head_of}
use Rattle.model.specs.Reference.{Cause, Slot, first_cause, whole, holds, line_findings, deadline_finding}
use Rattle.orders.specs.declared.Flow.{Flow}
use Rattle.orders.specs.View.{fields_of}
use Rattle.queue_table.specs.View.{hop_at}
use Rattle.bit_words.specs.View.{is_set, BitChanged}
use Rattle.flow_store.specs.View.{PackedStore, hops_at, head_at, flow_at, slot_of, slots_of, flow_in, entries_in}
use Rattle.flow_store.specs.Laws.{length-slots, slot_at, held-slot}
use Rattle.flow_store.proofs.ViewLaws.{path_inside, flow-long}
use Rattle.flow_check.specs.View.{entry_findings, path_findings, slot_alone, Marked}
use Rattle.flow_check.proofs.MarkLaws.{marked-free, marked-twice, marked-first, marked_next}

-- The first of the findings is one, or none.
pub first_some : (x : Option Cause) (l : List (Option Cause)) → is_none x ≡ false → is_none (first_cause (x ∷ l)) ≡ false
unfolding first_cause is_none
first_some none l e = absurd (true≢false e)
first_some (some c) l e = refl

pub first-skip : (x : Option Cause) (l : List (Option Cause)) → is_none x ≡ true → first_cause (x ∷ l) ≡ first_cause l
unfolding first_cause is_none
first-skip none l e = refl
first-skip (some c) l e = absurd (true≢false (sym e))

module _ (t : Table) (slots : List Slot) (i : ℕ) (f : model.Flow) where
  alone-range : flow_in_range f ≡ false → slot_alone t slots i (some f) ≡ false
  unfolding slot_alone
  alone-range e = simp e

  module _ (range : flow_in_range f ≡ true) where
    alone-number : eqb (first_index (holds f.number) slots) i ≡ false → slot_alone t slots i (some f) ≡ false
    unfolding slot_alone
    alone-number e = simp (range, e)

    module _ (own : eqb (first_index (holds f.number) slots) i ≡ true) where
      alone-frame : ltb f.burst f.frame ≡ true → slot_alone t slots i (some f) ≡ false
      unfolding slot_alone first_cause line_findings whole is_none
      alone-frame e = simp (range, own, e)

      alone-path : ltb f.burst f.frame ≡ false
          → slot_alone t slots i (some f) ≡ is_none (first_cause (path_findings t f.deadline f.path))
      unfolding slot_alone first_cause line_findings deadline_finding entry_findings whole
      alone-path e = simp (range, own, e)

module _ (t : Table) (i : ℕ) {bits store : List ℕ} (stored : PackedStore bits store) (inside : i < slot_count) where
  abbrev all : List Slot
  all = slots_of bits store

  abbrev here : Bool
  here = slot_alone t all i (get_or all i none)

  abbrev flow : model.Flow
  flow = flow_in store i

  long : i < length all
  long = omega (arith, inside, length-slots bits store)

  pub judged-free : {marks : List ℕ} → Marked all i marks → is_set bits i ≡ false → (here ≡ true) × Marked all (i + 1) marks
  unfolding slot_alone slot_of
  judged-free marked free =
      let nothing : get_or all i none ≡ none = slot_at bits store i inside ∙ ap (λ (b : Bool). slot_of b flow) free in
      (ap (slot_alone t all i) nothing, marked-free all i marked long nothing)

  module _ (held : is_set bits i ≡ true) where
    there : here ≡ slot_alone t all i (some flow)
    there = ap (slot_alone t all i) (held-slot bits store i inside held)

    range_at : flow_in_range flow ≡ (model.head_in_range (head_at store i) && between 1 hops_most (hops_at store i))
    unfolding flow_in_range head_of model.head_in_range model.hops_in_range flow_at
    range_at =
        ap (λ (n : ℕ). model.head_in_range (head_at store i) && between 1 hops_most n)
        (flow-long store stored.store_long i (path_inside bits store stored.packed i inside held))

    -- By the numbers read from the slot.
    module _ (g : Flow) (e : fields_of g ≡ head_at store i) where
      range-here : flow_in_range flow ≡ (model.head_in_range (fields_of g) && between 1 hops_most g.hops)
      range-here = range_at ∙ ap (λ (h : model.Head). model.head_in_range h && between 1 hops_most h.hops) (sym e)

      pub judged-range : (model.head_in_range (fields_of g) && between 1 hops_most g.hops) ≡ false → here ≡ false
      judged-range r = there ∙ alone-range t all i flow (range-here ∙ r)

-- What the tests up to 11 tell of a slot: it is held, and the numbers read from it are in range.
pub record Ranged (i : ℕ) (bits store : List ℕ) (g : Flow) : Type 0 where
  pub stored : PackedStore bits store
  pub inside : i < slot_count
  pub held : is_set bits i ≡ true
  pub fields : fields_of g ≡ head_at store i
  pub range : (model.head_in_range (fields_of g) && between 1 hops_most g.hops) ≡ true

module _ (t : Table) {i : ℕ} {bits store : List ℕ} {g : Flow} (r : Ranged i bits store g) where
  abbrev view : List Slot
  view = slots_of bits store

  abbrev f : model.Flow
  f = flow_in store i

  found : get_or view i none ≡ some f
  found = held-slot bits store i r.inside r.held

  pub judged-few : g.hops ≤ hops_most
  unfolding between
  judged-few = leb-true g.hops hops_most (and_both (leb 1 g.hops) _ (and_both (model.head_in_range (fields_of g)) _ r.range).1).1

  ranged : flow_in_range f ≡ true
  ranged = range-here t i r.stored r.inside r.held g r.fields ∙ r.range

  number : f.number ≡ g.number
  unfolding flow_at
  number = ap (λ (h : model.Head). h.number) (sym r.fields)

  -- So its number has a bit.
  pub judged-small : g.number ≤ number_most
  judged-small = omega (arith, number, (flow-bounds f ranged).number)

  holds-here : holds g.number (get_or view i none) ≡ true
  unfolding holds
  holds-here = ap (holds g.number) found ∙ eq-eqb f.number g.number number

  own-index : first_index (holds f.number) view ≡ first_index (holds g.number) view
  own-index = ap (λ (n : ℕ). first_index (holds n) view) number

  module _ {marks : List ℕ} (marked : Marked view i marks) where
    abbrev stands : Bool
    stands = slot_alone t view i (get_or view i none)

    pub judged-twice : is_set marks g.number ≡ true → stands ≡ false
    judged-twice set =
        ap (slot_alone t view i) found
        ∙ alone-number t view i f ranged
        (ne_eqb _ i (λ z. marked-twice view i marked g.number judged-small set (sym own-index ∙ z)))

    module _ (new : is_set marks g.number ≡ false) where
      pub judged-marked : {marks' : List ℕ} → BitChanged g.number true marks marks' → Marked view (i + 1) marks'
      judged-marked = marked_next view i marked g.number judged-small holds-here new (long t i r.stored r.inside)

      own : eqb (first_index (holds f.number) view) i ≡ true
      own = eq-eqb _ i (own-index ∙ marked-first view i marked g.number judged-small holds-here new)

      frame_here : ltb f.burst f.frame ≡ ltb g.share.burst.0 g.share.frame.0
      unfolding flow_at
      frame_here = ap (λ (h : model.Head). ltb h.burst h.frame) (sym r.fields)

      pub judged-frame : g.share.burst.0 < g.share.frame.0 → stands ≡ false
      judged-frame h = ap (slot_alone t view i) found ∙ alone-frame t view i f ranged own (frame_here ∙ lt-ltb _ _ h)

      pub judged-path : g.share.frame.0 ≤ g.share.burst.0
          → stands ≡ is_none (first_cause (path_findings t g.deadline.0 (map hop_at (entries_in store i))))
      unfolding flow_at
      judged-path h =
          ap (slot_alone t view i) found
          ∙ alone-path t view i f ranged own (frame_here ∙ le-ltb _ _ h)
          ∙ ap (λ (x : model.Head). is_none (first_cause (path_findings t x.deadline (map hop_at (entries_in store i))))) (sym r.fields)
