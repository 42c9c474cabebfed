-- Registrations are all admitted from an empty registry exactly when their flows are consistent, and then they stand in turn. What is consistent stays so in any order and
-- in part (`flows-part`), so their order can't matter. By induction on the flows. Assumes nothing.
use Prim.Native.Nat.{ℕ, zero, suc, ◌+◌, ◌-◌, ◌≤◌, ◌<◌}
use Rattle.std.specs.Prelude.{◌≡◌, Bool, true, false, cond, ◌⊎◌, ◌↔◌, set, replicate, eqb}
use Rattle.std.proofs.Math.Path.{refl, ap, ap₂, subst}
use Rattle.std.proofs.Common.{sym, ◌∙◌, inl, inr, ⊎_elim, eqb-true}
use mathlib.Core.List.Permᴰ
use mathlib.Core.List.{List, [], ◌∷◌, ◌++◌, map, append-nil, Permᴰ}
use Rattle.std.proofs.Math.Option.{none, some}
use native.Mathlib.Omega.{arith}
use Rattle.std.proofs.Math.ListN.{length, length-append}
use Rattle.std.proofs.lemmas.List.{length-replicate}
use Rattle.std.proofs.Math.Seq.{append_snoc}
use Rattle.model.specs.Words.{All, first_index, is_none}
use Rattle.model.specs.Sizes.{slot_count}
use Rattle.model.specs.Total.{total}
use Rattle.model.specs.Part.{Part, empty, skip, keep, swap, both}
use Rattle.model.proofs.Laws.Part.{part-refl, perm-part, part-map, perm-map, all-part}
use Rattle.model.proofs.Laws.All.{all-imp, all_map, map-all}
use Rattle.model.specs.QueueTable.{Table}
use Rattle.model.specs.Orders.{Flow, Order, register, release, change, rejected, registering, kind_number}
use Rattle.model.specs.Aggregates.{aggregate_at}
use Rattle.model.proofs.Laws.Aggregates.{aggregate-perm}
use Rattle.model.specs.Reference.{Slot, State, Answer, Outcome, held_flows, with_number, perform, fill, findings, apply, order_answers, after_orders, opened}
use Rattle.model.specs.Consistent.{flow_in_range}
use Rattle.model.proofs.Laws.Order.{Ranged}
use Rattle.model.proofs.Laws.Consistent.{FlowsRules, flows-part}
use Rattle.model.proofs.Laws.Reference.{register-rules, rules-register, performed, no-cause}
use Rattle.model.proofs.Laws.Reached.{none-held, opened-rules, rules-more, more-rules}
use Rattle.model.specs.AnyOrder.{slots_from, in_turn, HeldInTurn, SameFlows, AdmittedWhole, InTurn, AnyOrder}

-- Held in turn, before so many free slots: the flows, how many slots there are, the first free one, and that one filled.
abbrev slots_of : List Flow → (free : ℕ) → List Slot
slots_of fs free = map some fs ++ replicate free none

held-before : (fs : List Flow) (free : ℕ) → held_flows (slots_of fs free) ≡ fs
unfolding held_flows
held-before [] free = none-held free
held-before (f ∷ fs) free = ap (λ (l : List Flow). f ∷ l) (held-before fs free)

slots-before : (fs : List Flow) (free : ℕ) → length (slots_of fs free) ≡ length fs + free
slots-before [] free = omega (arith, length-replicate {A = Slot} free none)
slots-before (f ∷ fs) free = omega (arith, slots-before fs free)

first-before : (fs : List Flow) (free : ℕ) → first_index is_none (slots_of fs (suc free)) ≡ length fs
unfolding first_index is_none
first-before [] free = refl
first-before (f ∷ fs) free = ap suc (first-before fs free)

filled-before : (fs : List Flow) (free : ℕ) (f : Flow)
    → set (slots_of fs (suc free)) (length fs) (some f) ≡ slots_of (fs ++ f ∷ []) free
filled-before [] free f = refl
filled-before (g ∷ fs) free f = ap (λ (l : List Slot). some g ∷ l) (filled-before fs free f)

pub held-turn : (fs : List Flow) → held_flows (in_turn fs) ≡ fs
unfolding in_turn
held-turn fs = held-before fs (slot_count - length fs)

-- The number of a flow that is one of its number is one of any number.
one_each : (n : ℕ) (fs : List Flow) → All (λ f. with_number f.number fs ≤ 1) fs → with_number n fs ≤ 1
unfolding with_number total
one_each n fs a = ⊎_elim (λ z. omega (arith, z)) (λ h. h) (find fs a)
  where
    find : (l : List Flow) → All (λ f. with_number f.number fs ≤ 1) l → (with_number n l ≡ 0) ⊎ (with_number n fs ≤ 1)
    find [] a = inl refl
    find (f ∷ l) a = go (eqb f.number n) refl (find l a.1)
      where
        go : (b : Bool) → eqb f.number n ≡ b → (with_number n l ≡ 0) ⊎ (with_number n fs ≤ 1) → (cond b 1 0 + with_number n l ≡ 0) ⊎ (with_number n fs ≤ 1)
        go true e r = inr (subst (λ k. with_number k fs ≤ 1) (eqb-true _ _ e) a.0)
        go false e r = ⊎_elim (λ z. inl (omega (arith, z))) inr r

zeros : (first n : ℕ) → All (λ a. a.code ≡ 0) (slots_from first n)
unfolding slots_from
zeros first zero = tt
zeros first (suc n) = (refl, zeros (suc first) n)

-- The flow that is registered next, and those before it, are a part of all.
new-part : (f : Flow) (held fs : List Flow) → Part (f ∷ held) (held ++ f ∷ fs)
new-part f [] fs = keep (nothing fs)
  where
    nothing : (fs : List Flow) → Part [] fs
    nothing [] = empty
    nothing (f ∷ fs) = skip (nothing fs)
new-part f (g ∷ held) fs = both swap (keep (new-part f held fs))

module _ (t : Table) where
  abbrev holding : List Flow → State
  holding fs = record { table = t; slots = in_turn fs }

  size : (fs : List Flow) → length fs ≤ slot_count → length (in_turn fs) ≡ slot_count
  unfolding in_turn
  size fs h = omega (arith, slots-before fs (slot_count - length fs))

  -- A registration takes the next slot.
  placed : (fs : List Flow) (f : Flow) → length fs < slot_count
      → perform (holding fs) (register f) ≡ record { answer = record { code = 0; slot = suc (length fs); link = 0; level = 0 }; next = holding (fs ++ f ∷ []) }
  unfolding perform fill in_turn
  placed fs f h =
      let free : slot_count - length fs ≡ suc (slot_count - suc (length fs)) = omega arith in
      let left : slot_count - suc (length fs) ≡ slot_count - length (fs ++ f ∷ []) = omega (arith, length-append fs (f ∷ [])) in
      rw (free, first-before fs (slot_count - suc (length fs)), filled-before fs (slot_count - suc (length fs)) f, left)

  admitted-next : (fs : List Flow) (f : Flow) → FlowsRules t (f ∷ fs)
      → apply (holding fs) (register f) ≡ record { answer = record { code = 0; slot = suc (length fs); link = 0; level = 0 }; next = holding (fs ++ f ∷ []) }
  unfolding findings
  admitted-next fs f r =
      performed (holding fs) (register f)
      (rules-register (holding fs) f (more-rules (holding fs) f (size fs (omega (arith, r.slots))) (subst (λ l. FlowsRules t (f ∷ l)) (sym (held-turn fs)) r)))
      ∙ placed fs f r.slots

  -- Consistent flows are all admitted, in turn.
  consistent-in-turn : (held fs : List Flow) → FlowsRules t (held ++ fs)
      → (order_answers (holding held) (map register fs) ≡ slots_from (suc (length held)) (length (map register fs)))
      × (after_orders (holding held) (map register fs) ≡ holding (held ++ fs))
  unfolding order_answers after_orders slots_from
  consistent-in-turn held [] r = (refl, ap holding (sym (append-nil held)))
  consistent-in-turn held (f ∷ fs) r =
      let next = admitted-next held f (flows-part t (new-part f held fs) r) in
      let long : length (held ++ f ∷ []) ≡ suc (length held) = omega (arith, length-append held (f ∷ [])) in
      let (answered, left) = consistent-in-turn (held ++ f ∷ []) fs (subst (FlowsRules t) (sym (append_snoc held f fs)) r) in (
        ap (λ (out : Outcome). out.answer ∷ order_answers out.next (map register fs)) next
            ∙ ap (λ (l : List Answer). record { code = 0; slot = suc (length held); link = 0; level = 0 } ∷ l)
            (answered ∙ ap (λ (k : ℕ). slots_from (suc k) (length (map register fs))) long),
        ap (λ (out : Outcome). after_orders out.next (map register fs)) next ∙ left ∙ ap holding (append_snoc held f fs),
      )

  -- Flows that are all admitted are consistent.
  admitted-consistent : (held fs : List Flow) → FlowsRules t held → All (λ f. flow_in_range f ≡ true) fs
      → All (λ a. a.code ≡ 0) (order_answers (holding held) (map register fs))
      → FlowsRules t (held ++ fs)
  unfolding order_answers findings
  admitted-consistent held [] r range z = subst (FlowsRules t) (sym (append-nil held)) r
  admitted-consistent held (f ∷ fs) r range z =
      subst (FlowsRules t) (append_snoc held f fs)
      (admitted-consistent (held ++ f ∷ []) fs (flows-part t (perm-part behind) more) range.1
      (subst (λ (out : Outcome). All (λ a. a.code ≡ 0) (order_answers out.next (map register fs))) (admitted-next held f more) z.1))
    where
      behind : Permᴰ (held ++ f ∷ []) (f ∷ held)
      behind = Permᴰ.trans (Permᴰ.middle f held []) (Permᴰ.cons refl (Permᴰ.append-nil held))

      more : FlowsRules t (f ∷ held)
      more =
          subst (λ l. FlowsRules t (f ∷ l)) (held-turn held)
          (rules-more (holding held) f (size held r.slots) range.0 (subst (FlowsRules t) (sym (held-turn held)) r)
          (register-rules (holding held) f (no-cause (holding held) (register f) (kind_number registering) (refl, range.0) z.0)))

  same-flows : {fs fs' : List Flow} → Permᴰ fs fs' → SameFlows (holding fs) (holding fs')
  same-flows {fs} {fs'} p =
      record {
        table = refl;
        flows = subst (λ l. Permᴰ l (held_flows (in_turn fs'))) (sym (held-turn fs)) (subst (Permᴰ fs) (sym (held-turn fs')) p);
        figures = λ q. ap (λ l. aggregate_at t l q) (held-turn fs) ∙ aggregate-perm t p q ∙ ap (λ l. aggregate_at t l q) (sym (held-turn fs'));
      }

-- The flow that an order registers.
registered : Order → Flow
registered (register f) = f
registered (release n) = record { number = n; rate = 0; burst = 0; frame = 0; deadline = 0; path = [] }
registered (change c) = record { number = c.number; rate = 0; burst = 0; frame = 0; deadline = 0; path = [] }
registered (rejected code) = record { number = 0; rate = 0; burst = 0; frame = 0; deadline = 0; path = [] }

module _ (text : List ℕ) where
  abbrev table : Table
  table = (opened text).table

  -- From an empty registry: all are admitted exactly when they are consistent.
  pub registered-exactly : (fs : List Flow) → All (λ f. flow_in_range f ≡ true) fs
      → All (λ a. a.code ≡ 0) (order_answers (opened text) (map register fs)) ↔ FlowsRules table fs
  unfolding opened in_turn
  registered-exactly fs range = (
    λ z. admitted-consistent table [] fs (subst (FlowsRules table) (none-held slot_count) (opened-rules text).flows) range z,
    λ r. subst (All (λ a. a.code ≡ 0)) (sym (consistent-in-turn table [] fs r).0) (zeros 1 (length (map register fs))),
  )

  pub left-in-turn : (fs : List Flow) → FlowsRules table fs → after_orders (opened text) (map register fs) ≡ holding table fs
  unfolding opened in_turn
  left-in-turn fs r = (consistent-in-turn table [] fs r).1

  pub held-in-turn : (fs : List Flow) → FlowsRules table fs
      → HeldInTurn (map register fs) (order_answers (opened text) (map register fs)) (after_orders (opened text) (map register fs))
  unfolding opened in_turn
  held-in-turn fs r =
      subst (HeldInTurn (map register fs) (order_answers (opened text) (map register fs))) (sym (left-in-turn fs r))
      (record {
        answered = (consistent-in-turn table [] fs r).0;
        flows = ap (map register) (sym (held-turn fs));
        slots = ap in_turn (sym (held-turn fs));
        numbers = λ n. subst (λ l. with_number n l ≤ 1) (sym (held-turn fs)) (one_each n fs (all-imp fs (λ f m. m.number) r.flows));
      })

  -- Calls, or lines of a batch.
  module _ {A : Type 0} (read : A → Order) (ranged : (a : A) → Ranged (read a)) where
    abbrev Registers : A → Type 0
    Registers a = (f : Flow) × (read a ≡ register f)

    abbrev flows_of : List A → List Flow
    flows_of = map (λ a. registered (read a))

    read-flows : (l : List A) → All Registers l → map read l ≡ map register (flows_of l)
    unfolding registered
    read-flows [] a = refl
    read-flows (x ∷ l) a =
        let (f, e) = a.0 in
        ap₂ (λ (o : Order) (os : List Order). o ∷ os) (e ∙ ap (λ o. register (registered o)) (sym e)) (read-flows l a.1)

    in-range : (l : List A) → All Registers l → All (λ f. flow_in_range f ≡ true) (flows_of l)
    unfolding registered
    in-range l a =
        map-all (λ f. flow_in_range f ≡ true) (λ a. registered (read a)) l
        (all-imp l (λ x r. subst (λ o. flow_in_range (registered o) ≡ true) (sym r.1) (subst Ranged r.1 (ranged x))) a)

    pub in-any-order : (list : List A) → AdmittedWhole read (opened text) list → AnyOrder read (opened text) list
    in-any-order list admitted = record { part = in-turn; order = λ p. (in-turn (perm-part p), same p) }
      where
        all : All Registers list
        all = all_map (λ o. (f : Flow) × (o ≡ register f)) read list admitted.registrations

        consistent : FlowsRules table (flows_of list)
        consistent =
            (registered-exactly (flows_of list) (in-range list all)).0
            (subst (λ os. All (λ a. a.code ≡ 0) (order_answers (opened text) os)) (read-flows list all) admitted.admitted)

        consistent-part : {other : List A} → Part other list → FlowsRules table (flows_of other)
        consistent-part p = flows-part table (part-map (λ a. registered (read a)) p) consistent

        in-turn : {other : List A} → Part other list → InTurn read (opened text) other
        in-turn {other} p =
            subst (λ os. HeldInTurn os (order_answers (opened text) os) (after_orders (opened text) os))
            (sym (read-flows other (all-part Registers p all))) (held-in-turn (flows_of other) (consistent-part p))

        left : {other : List A} → Part other list → after_orders (opened text) (map read other) ≡ holding table (flows_of other)
        left {other} p = ap (after_orders (opened text)) (read-flows other (all-part Registers p all)) ∙ left-in-turn (flows_of other) (consistent-part p)

        same : {other : List A} → Permᴰ other list → SameFlows (after_orders (opened text) (map read other)) (after_orders (opened text) (map read list))
        same p = rw (left (perm-part p), left (part-refl list)) (same-flows table (perm-map (λ a. registered (read a)) p))
