-- One order on the reference model, finding by finding: which cause comes first.
-- Assumes nothing.
use Prim.Native.Nat.{ℕ}
use mathlib.Core.Path.{◌≡◌, refl, ◌∙◌}
use mathlib.Core.List.{List, [], ◌∷◌, ◌++◌}
use mathlib.Core.Option.{Option, none, some, none-ne-some}
use Rattle.model.specs.Orders.{Flow, register, rejected}
use Rattle.model.specs.Reference.{State, Cause, held_flows, first_cause, whole, line_findings, room_findings, link_findings, register_findings, findings}
use Rattle.model.specs.Outcomes.{early_findings}
use Rattle.model.proofs.Laws.Finding.{none-applies, skip-none}

first_some : (l m : List (Option Cause)) {c : Cause} → first_cause l ≡ some c → first_cause (l ++ m) ≡ some c
unfolding first_cause
first_some [] m e = absurd (none-ne-some _ e)
first_some (none ∷ l) m e = first_some l m e
first_some (some d ∷ l) m e = e

-- 10 or 11 of a line.
pub line-cause : (s : State) (code : ℕ) → first_cause (findings s (rejected code)) ≡ some (record { code = code; link = 0; level = 0 })
unfolding findings first_cause whole
line-cause s code = refl

module _ (s : State) (f : Flow) where
  late : List (Option Cause)
  late = room_findings s.slots f ++ link_findings s.table (f ∷ held_flows s.slots) f.path

  in_parts : first_cause (findings s (register f)) ≡ first_cause (early_findings s f ++ late)
  unfolding findings register_findings early_findings line_findings room_findings late
  in_parts = refl

  pub early-cause : {c : Cause} → first_cause (early_findings s f) ≡ some c → first_cause (findings s (register f)) ≡ some c
  early-cause e = in_parts ∙ first_some (early_findings s f) late e

  module _ (early : first_cause (early_findings s f) ≡ none) where
    past-early : first_cause (findings s (register f)) ≡ first_cause late
    past-early = in_parts ∙ skip-none (early_findings s f) late (none-applies (early_findings s f) early)

    pub room-cause : {c : Cause} → first_cause (room_findings s.slots f) ≡ some c → first_cause (findings s (register f)) ≡ some c
    unfolding late
    room-cause e = past-early ∙ first_some (room_findings s.slots f) (link_findings s.table (f ∷ held_flows s.slots) f.path) e

    pub links-cause : first_cause (room_findings s.slots f) ≡ none
        → first_cause (findings s (register f)) ≡ first_cause (link_findings s.table (f ∷ held_flows s.slots) f.path)
    unfolding late
    links-cause e =
        past-early
        ∙ skip-none (room_findings s.slots f) (link_findings s.table (f ∷ held_flows s.slots) f.path) (none-applies (room_findings s.slots f) e)
