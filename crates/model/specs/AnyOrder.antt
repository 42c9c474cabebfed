-- W-205: registrations that are all admitted, one after the other, from an empty registry. Their order decides the slots (document 01: places), and nothing else.
-- Another order of a list is the library's permutation, `List.Permᴰ`; a part of it (`Part`) also leaves some out.
use Rattle.std.specs.Prelude.{ℕ, zero, suc, ◌-◌, ◌≤◌, ◌≡◌, length, replicate}
use mathlib.Core.List.{List, [], ◌∷◌, ◌++◌, map, Permᴰ}
use Rattle.std.proofs.Math.Option.{none, some}
use Rattle.model.specs.Words.{All}
use Rattle.model.specs.Sizes.{slot_count}
use Rattle.model.specs.Part.{Part}
use Rattle.model.specs.Orders.{Hop, Flow, Order, register}
use Rattle.model.specs.Aggregates.{aggregate_at}
use Rattle.model.specs.Reference.{Slot, State, Answer, held_flows, with_number, order_answers, after_orders}

-- Registrations, each answered 0.
pub record AllAdmitted (orders : List Order) (answers : List Answer) : Type 0 where
  pub registrations : All (λ o. (f : Flow) × (o ≡ register f)) orders
  pub admitted : All (λ a. a.code ≡ 0) answers

-- So many answers 0, with the slots from `first` on.
unfoldable pub slots_from : (first count : ℕ) → List Answer
slots_from first zero = []
slots_from first (suc n) = record { code = 0; slot = first; link = 0; level = 0 } ∷ slots_from (suc first) n

-- The flows in slots 1, 2, 3, .. in their order; every later slot is free.
unfoldable pub in_turn : List Flow → List Slot
in_turn fs = map some fs ++ replicate (slot_count - length fs) none

-- All admitted, with slots 1, 2, 3, .. as they come. There the flows are held, in the order of their registrations, one to a number.
pub record HeldInTurn (orders : List Order) (answers : List Answer) (s : State) : Type 0 where
  pub answered : answers ≡ slots_from 1 (length orders)
  pub flows : orders ≡ map register (held_flows s.slots)
  pub slots : s.slots ≡ in_turn (held_flows s.slots)
  pub numbers : (n : ℕ) → with_number n (held_flows s.slots) ≤ 1

-- The same flows, slots aside, on the same table; and at every queue the same figures.
pub record SameFlows (s s' : State) : Type 0 where
  pub table : s.table ≡ s'.table
  pub flows : Permᴰ (held_flows s.slots) (held_flows s'.slots)
  pub figures : (q : Hop) → aggregate_at s.table (held_flows s.slots) q ≡ aggregate_at s'.table (held_flows s'.slots) q

-- What is said of a list on the state `s`, by how each of its elements is read: a call, or a line of a batch.
module _ {A : Type 0} (read : A → Order) (s : State) where
  abbrev pub AdmittedWhole : List A → Type 0
  AdmittedWhole list = AllAdmitted (map read list) (order_answers s (map read list))

  abbrev pub InTurn : List A → Type 0
  InTurn list = HeldInTurn (map read list) (order_answers s (map read list)) (after_orders s (map read list))

  pub record AnyOrder (list : List A) : Type 0 where
    -- Every part of it, in any order, is admitted.
    pub part : {other : List A} → Part other list → InTurn other
    -- So is every order of the whole, which leaves the same flows and figures.
    pub order : {other : List A} → Permᴰ other list → InTurn other × SameFlows (after_orders s (map read other)) (after_orders s (map read list))
