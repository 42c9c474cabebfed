-- Room lacks, with no cause before 30, exactly when every slot is held or the held hop entries and the path's exceed the hop entries.
-- What stands before 30 drops out of the findings; what stands after 31 has other codes. Assumes nothing.
use Rattle.std.specs.Prelude.{ℕ, ◌+◌, ◌≤◌, ◌≡◌, Bool, ◌⊎◌, ◌↔◌, length, ltb}
use Rattle.std.proofs.Math.Path.{refl, ap}
use Rattle.std.proofs.Common.{◌∙◌, ltb-true, lt-ltb}
use Rattle.std.proofs.Math.Bool.{true, false, false≢true}
use Rattle.std.proofs.Math.Logic.{inl, inr, ⊎_elim}
use mathlib.Core.List.{List, ◌∷◌, ◌++◌}
use Rattle.std.proofs.Math.Option.{Option, none, some}
use native.Mathlib.Omega.{arith}
use Rattle.model.specs.Words.{All, every}
use Rattle.model.specs.Orders.{Flow, register}
use Rattle.model.specs.Sizes.{slot_count, hop_entries}
use Rattle.model.specs.Reference.{State, Cause, held_flows, held_hops, is_held, first_cause, whole, line_findings, room_findings, link_findings, register_findings, findings, refuse, fill, perform, decide, apply}
use Rattle.model.specs.Outcomes.{NoneApplies, early_findings, NoRoom, Full}
use Rattle.model.proofs.Laws.Finding.{Caused, first-caused, skip-none}
use Rattle.model.proofs.Laws.LinkMeets.{findings-caused}
use Rattle.model.proofs.Laws.Slot.{all_held, not-all-held}

-- What the links' causes have in common.
abbrev Low : Cause → Type 0
Low c = c.code ≤ 23

module _ (s : State) (f : Flow) where
  code : List (Option Cause) → ℕ
  code l = (decide s (register f) (first_cause l)).answer.code

  -- With the early causes out of the way.
  late-code : NoneApplies (early_findings s f)
      → (apply s (register f)).answer.code
      ≡ code (room_findings s.slots f ++ link_findings s.table (f ∷ held_flows s.slots) f.path)
  unfolding apply findings register_findings early_findings line_findings room_findings code
  late-code a = ap (λ x. (decide s (register f) x).answer.code) (skip-none (early_findings s f) _ a)

  links-code : (l : List (Option Cause)) → All (Caused Low) l → code l ≤ 23
  unfolding code decide perform fill refuse
  links-code l a = go (first_cause l) (first-caused Low l a)
    where
      go : (x : Option Cause) → Caused Low x → (decide s (register f) x).answer.code ≤ 23
      go none c = omega arith
      go (some cause) c = c

  module _ (l : List (Option Cause)) (low : All (Caused Low) l) where
    room-tests : (b c : Bool) → NoRoom (code (whole 30 b ∷ whole 31 c ∷ l)) → (b ≡ true) ⊎ (c ≡ true)
    unfolding code decide first_cause whole refuse
    room-tests true c n = inl refl
    room-tests false true n = inr refl
    room-tests false false n = absurd (⊎_elim (λ e. omega (arith, links-code l low)) (λ e. omega (arith, links-code l low)) n)

    tests-room : (b c : Bool) → (b ≡ true) ⊎ (c ≡ true) → NoRoom (code (whole 30 b ∷ whole 31 c ∷ l))
    unfolding code decide first_cause whole refuse
    tests-room true c t = inl refl
    tests-room false true t = inr refl
    tests-room false false t = absurd (⊎_elim false≢true false≢true t)

  slots-held : length s.slots ≡ slot_count → (every is_held s.slots ≡ true) ↔ (length (held_flows s.slots) ≡ slot_count)
  slots-held size = (λ e. all_held s.slots e ∙ size, λ e. go (every is_held s.slots) refl e)
    where
      go : (b : Bool) → every is_held s.slots ≡ b → length (held_flows s.slots) ≡ slot_count → every is_held s.slots ≡ true
      go true q e = q
      go false q e = absurd (omega (arith, not-all-held s.slots q))

  pub room : length s.slots ≡ slot_count → NoneApplies (early_findings s f) → NoRoom (apply s (register f)).answer.code ↔ Full s f
  unfolding room_findings
  room size early = (
    λ n.
        ⊎_elim (λ e. inl ((slots-held size).0 e)) (λ e. inr (ltb-true _ _ e))
        (room-tests links low (every is_held s.slots) hops (rw (late-code early) at n)),
    λ full.
        rw (late-code early)
        (tests-room links low (every is_held s.slots) hops (⊎_elim (λ e. inl ((slots-held size).1 e)) (λ h. inr (lt-ltb _ _ h)) full)),
  )
    where
      links : List (Option Cause)
      links = link_findings s.table (f ∷ held_flows s.slots) f.path

      low : All (Caused Low) links
      low = findings-caused s.table (f ∷ held_flows s.slots) Low f.path (λ h on k e. omega arith) (λ h on p q e. (omega arith, (omega arith, tt)))

      hops : Bool
      hops = ltb hop_entries (held_hops (held_flows s.slots) + length f.path)
