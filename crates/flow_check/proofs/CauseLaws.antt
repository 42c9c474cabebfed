-- The causes before 30, and 30 and 31, test by test: which comes first once the tests before it are known.
-- Assumes nothing.
use Prim.Native.Nat.{◌+◌, ◌<◌, ◌≤◌}
use mathlib.Core.Path.{◌≡◌}
use mathlib.Core.Bool.{true, false}
use mathlib.Core.List.{List, [], ◌∷◌}
use mathlib.Core.Option.{none, some}
use borrow.Author.Tests.{lt-ltb, le-ltb}
use lib.ListN.{length}
use lib.Dec.{leb, ltb}
use Rattle.model.specs.Words.{every}
use Rattle.model.specs.Sizes.{hop_entries}
use Rattle.model.specs.Orders.{Flow}
use Rattle.model.specs.Reference.{State, Slot, first_cause, whole, at_hop, no_queue, with_number, held_flows, held_hops, is_held, number_finding, line_findings, deadline_finding, room_findings}
use Rattle.model.specs.Outcomes.{early_findings}
use Rattle.flow_check.specs.View.{entry_findings}

module _ (s : State) (f : Flow) where
  pub early-held : leb 1 (with_number f.number (held_flows s.slots)) ≡ true
      → first_cause (early_findings s f) ≡ some (record { code = 12; link = 0; level = 0 })
  unfolding first_cause early_findings number_finding whole
  early-held e = simp e

  module _ (new : leb 1 (with_number f.number (held_flows s.slots)) ≡ false) where
    pub early-frame : ltb f.burst f.frame ≡ true → first_cause (early_findings s f) ≡ some (record { code = 17; link = 0; level = 0 })
    unfolding first_cause early_findings number_finding line_findings whole
    early-frame e = simp (new, e)

    pub early-path : ltb f.burst f.frame ≡ false
        → first_cause (early_findings s f) ≡ first_cause (at_hop 14 (no_queue s.table) [] f.path ∷ entry_findings s.table f.deadline f.path)
    unfolding first_cause early_findings number_finding line_findings deadline_finding entry_findings whole
    early-path e = simp (new, e)

module _ (slots : List Slot) (f : Flow) where
  pub room-slots : every is_held slots ≡ true → first_cause (room_findings slots f) ≡ some (record { code = 30; link = 0; level = 0 })
  unfolding first_cause room_findings whole
  room-slots e = simp e

  module _ (free : every is_held slots ≡ false) where
    pub room-hops : hop_entries < held_hops (held_flows slots) + length f.path → first_cause (room_findings slots f) ≡ some (record { code = 31; link = 0; level = 0 })
    unfolding first_cause room_findings whole
    room-hops h = simp (free, lt-ltb _ _ h)

    pub room-left : held_hops (held_flows slots) + length f.path ≤ hop_entries → first_cause (room_findings slots f) ≡ none
    unfolding first_cause room_findings whole
    room-left h = simp (free, le-ltb _ _ h)
