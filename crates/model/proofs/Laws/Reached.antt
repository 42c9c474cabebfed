-- Every state reached from any table text by any list of calls is consistent. A refusal leaves the state; an admission's causes are the rules for
-- one flow more; a release leaves a part, and a change one flow more beside it. Assumes nothing.
use Rattle.std.specs.Prelude.{ℕ, zero, suc, ◌+◌, ◌≤◌, ◌<◌, ◌≡◌, Bool, true, false, ◌&&◌, ◌↔◌, length, set, replicate, leb, eqb}
use Rattle.std.proofs.Math.Path.{refl, subst}
use Rattle.std.proofs.Common.{sym, ◌∙◌, arith, eqb-true, eq-eqb, ne_eqb, leb-true, lt-ltb, le-ltb}
use Rattle.std.proofs.Math.Bool.{cond}
use mathlib.Core.List.Permᴰ
use mathlib.Core.List.{List, [], ◌∷◌, Permᴰ}
use Rattle.std.proofs.Math.Option.{Option, none, some}
use Rattle.std.proofs.Math.ListN.{get_or, length-set}
use Rattle.std.proofs.lemmas.List.{length-replicate}
use Rattle.std.proofs.lemmas.Bool.{lt-leb}
use Rattle.model.specs.Words.{every, first_index, is_none}
use Rattle.model.specs.Total.{total}
use Rattle.model.specs.Orders.{Flow, Change, Order, register, release, change, rejected, change_in_range, kind_number}
use Rattle.model.specs.Sizes.{slot_count, hop_entries}
use Rattle.model.specs.Reference.{Slot, State, Cause, Call, held_flows, held_hops, with_number, is_held, first_cause, whole, number_finding, room_findings, index_of, slot_with, changed, changed_slot, change_findings, findings, refuse, fill, perform, decide, apply, call_order, step, opened, after_orders, final}
use Rattle.model.proofs.Laws.Finding.{none-applies, none-whole}
use Rattle.model.proofs.Laws.LinkMeets.{findings-meet, meet-findings}
use Rattle.model.specs.Outcomes.{NoneApplies, with_slot, Changeable}
use Rattle.model.proofs.Laws.All.{all-imp}
use Rattle.model.proofs.Laws.Part.{perm-part}
use Rattle.model.proofs.Laws.Slot.{all_held, not-all-held, fill-perm, clear-part, number-index, held_at, held-inside, put-perm, index-only}
use Rattle.model.proofs.Laws.Change.{changed-range, no_other, changed-rules, rules-changed}
use Rattle.model.proofs.Laws.Order.{Readable, call-readable}
use Rattle.model.proofs.Laws.Table.{table-consistent}
use Rattle.model.proofs.Laws.Test.{and_both, both-and}
use Rattle.model.specs.Consistent.{table_consistent, flow_in_range, consistent}
use Rattle.model.proofs.Laws.Consistent.{FlowsRules, flows-rules, rules-flows, flows-part, flows-more}
use Rattle.model.proofs.Laws.Reference.{RegisterRules, register-rules, number-new, slot-free, hops-free, change-done}

-- What a consistent state meets.
pub record StateRules (s : State) : Type 0 where
  pub table : table_consistent s.table ≡ true
  pub size : length s.slots ≡ slot_count
  pub flows : FlowsRules s.table (held_flows s.slots)

pub state-rules : (s : State) → consistent s ≡ true → StateRules s
unfolding consistent
state-rules s e =
    let (e₁, flows) = and_both (table_consistent s.table && eqb (length s.slots) slot_count) _ e in
    let (table, size) = and_both (table_consistent s.table) (eqb (length s.slots) slot_count) e₁ in
    record { table = table; size = eqb-true _ _ size; flows = flows-rules s.table (held_flows s.slots) flows }

pub rules-state : (s : State) → StateRules s → consistent s ≡ true
unfolding consistent
rules-state s r =
    both-and (both-and r.table (eq-eqb _ _ r.size)) (rules-flows s.table (held_flows s.slots) r.flows)

pub none-held : (n : ℕ) → held_flows (replicate n none) ≡ []
unfolding held_flows
none-held zero = refl
none-held (suc n) = none-held n

no-flows : (s : State) → held_flows s.slots ≡ [] → FlowsRules s.table (held_flows s.slots)
unfolding held_hops total
no-flows s e = rw e (record { flows = tt; slots = omega arith; hops = omega arith })

pub opened-rules : (text : List ℕ) → StateRules (opened text)
unfolding opened
opened-rules text =
    record {
      table = table-consistent text;
      size = length-replicate {A = Slot} slot_count none;
      flows = no-flows (opened text) (none-held slot_count);
    }

-- There is no cause against a registration that was read exactly when the held flows with the new one are consistent.
module _ (s : State) (f : Flow) (size : length s.slots ≡ slot_count) where
  abbrev with-new : List Flow
  with-new = f ∷ held_flows s.slots

  pub rules-more : flow_in_range f ≡ true → FlowsRules s.table (held_flows s.slots) → RegisterRules s f → FlowsRules s.table with-new
  unfolding with_number total
  rules-more range r m =
      flows-more
      s.table
      f
      (held_flows s.slots)
      r
      (omega (arith, not-all-held s.slots (slot-free s.slots f m.others.room), size))
      (hops-free s.slots f m.others.room)
      (number-new (held_flows s.slots) f m.others.number)
      (
      record {
        range = range;
        number = rw (eq-eqb f.number f.number refl) (omega (arith, number-new (held_flows s.slots) f m.others.number));
        line = m.others.line;
        deadline = m.deadline;
        links = findings-meet s.table with-new f.path m.links;
      }
      )

  pub more-rules : FlowsRules s.table with-new → RegisterRules s f
  unfolding with_number held_hops total number_finding room_findings
  more-rules r =
      record {
        others =
            record {
              number = none-whole 12 _ (lt-leb 1 _ other);
              line = r.flows.0.line;
              room = (none-whole 30 _ (free (every is_held s.slots) refl), (none-whole 31 _ (le-ltb _ _ entries), tt));
            };
        deadline = r.flows.0.deadline;
        links = meet-findings s.table with-new f.path r.flows.0.links;
      }
    where
      other : with_number f.number (held_flows s.slots) < 1
      other = omega (arith, subst (λ b. cond b 1 0 + with_number f.number (held_flows s.slots) ≤ 1) (eq-eqb f.number f.number refl) r.flows.0.number)

      entries : held_hops (held_flows s.slots) + length f.path ≤ hop_entries
      entries = omega (arith, r.hops)

      free : (b : Bool) → every is_held s.slots ≡ b → b ≡ false
      free true e = absurd (omega (arith, all_held s.slots e, size, r.slots))
      free false e = refl

register-keeps : (s : State) (f : Flow) → flow_in_range f ≡ true → RegisterRules s f → StateRules s → StateRules (perform s (register f)).next
unfolding perform fill
register-keeps s f range m r =
    record {
      table = r.table;
      size = length-set s.slots (first_index is_none s.slots) (some f) ∙ r.size;
      flows = flows-part s.table (perm-part (fill-perm f s.slots (slot-free s.slots f m.others.room))) (rules-more s f r.size range r.flows m);
    }

pub clear-keeps : (s : State) (i : ℕ) → StateRules s → StateRules (fill s i none).next
unfolding fill
clear-keeps s i r =
    record {
      table = r.table;
      size = length-set s.slots i none ∙ r.size;
      flows = flows-part s.table (clear-part s.slots i) r.flows;
    }

-- A flow number is held in one slot.
pub one-slot : (s : State) → StateRules s → (n i : ℕ) {f : Flow} → get_or s.slots i none ≡ some f → f.number ≡ n → i ≡ index_of n s.slots
one-slot s r n i held own =
    sym (index-only n s.slots i held own
    (subst (λ n. with_number n (held_flows (set s.slots i none)) ≡ 0) own (no_other s.table s.slots i held r.flows)))

-- A release of its flow leaves that slot empty.
pub released-from : (s : State) → StateRules s → (n i : ℕ) {f : Flow} → get_or s.slots i none ≡ some f → f.number ≡ n → (apply s (release n)).next ≡ with_slot s i none
unfolding apply decide perform fill findings first_cause whole
released-from s r n i held own =
    let at : i ≡ index_of n s.slots = one-slot s r n i held own in
    let some-held : leb 1 (with_number n (held_flows s.slots)) ≡ true =
    number-index n s.slots ∙ lt-ltb (index_of n s.slots) (length s.slots) (omega (arith, at, held-inside s.slots i held)) in
    rw (at, ne_eqb (with_number n (held_flows s.slots)) 0 (λ z. omega (arith, leb-true 1 (with_number n (held_flows s.slots)) some-held)))

-- There is no cause against a change that was read exactly when its flow is held and all flows are consistent with it so changed.
module _ (s : State) (c : Change) (range : change_in_range c ≡ true) (r : StateRules s) where
  abbrev index : ℕ
  index = index_of c.number s.slots

  change-keeps : NoneApplies (findings s (change c)) → StateRules (perform s (change c)).next
  unfolding perform fill findings change_findings changed_slot
  change-keeps = go (slot_with c.number s.slots) refl
    where
      go : (x : Slot) → slot_with c.number s.slots ≡ x → NoneApplies (change_findings s c x) → StateRules (with_slot s index (changed_slot c x))
      go none e a = clear-keeps s index r
      go (some f) e a =
          record {
            table = r.table;
            size = length-set s.slots index (some (changed c f)) ∙ r.size;
            flows = changed-rules s.table s.slots index e r.flows c range a;
          }

  pub changeable : NoneApplies (findings s (change c)) ↔ Changeable s c
  unfolding findings change_findings
  changeable = (
    λ a.
        let done = change-done s c a in
        record { index = done.index; flow = done.flow; held = done.held; number = done.number; meets = rules-state _ (subst StateRules done.next (change-keeps a)) },
    λ m.
        let there : m.index ≡ index = one-slot s r c.number m.index m.held m.number in
        let held : slot_with c.number s.slots ≡ some m.flow = subst (λ i. get_or s.slots i none ≡ some m.flow) there m.held in
        let after : StateRules (with_slot s index (some (changed c m.flow))) =
        subst (λ i. StateRules (with_slot s i (some (changed c m.flow)))) there (state-rules _ m.meets) in
        subst (λ x. NoneApplies (change_findings s c x)) (sym held) (rules-changed s.table s.slots index held r.flows c after.flows),
  )

-- The same of its flow registered as changed, where its slot is empty.
module _ (s : State) (c : Change) (range : change_in_range c ≡ true) (r : StateRules s) (i : ℕ) {f : Flow} (held : get_or s.slots i none ≡ some f) where
  abbrev apart : State
  apart = with_slot s i none

  apart-rules : StateRules apart
  unfolding fill
  apart-rules = clear-keeps s i r

  again : Permᴰ (held_flows (set s.slots i (some (changed c f)))) (changed c f ∷ held_flows (set s.slots i none))
  again = put-perm s.slots i (changed c f) (held-inside s.slots i held)

  pub changed-ranged : flow_in_range (changed c f) ≡ true
  changed-ranged = changed-range c f range (held_at (λ f. flow_in_range f ≡ true) s.slots i (all-imp (held_flows s.slots) (λ f m. m.range) r.flows.flows) held)

  pub registered-again : RegisterRules apart (changed c f) ↔ (consistent (with_slot s i (some (changed c f))) ≡ true)
  registered-again = (
    λ m.
        rules-state (with_slot s i (some (changed c f)))
        (record {
          table = r.table;
          size = length-set s.slots i (some (changed c f)) ∙ r.size;
          flows = flows-part s.table (perm-part again) (rules-more apart (changed c f) apart-rules.size changed-ranged apart-rules.flows m);
        }),
    λ e. more-rules apart (changed c f) apart-rules.size (flows-part s.table (perm-part (Permᴰ.symm again)) (state-rules (with_slot s i (some (changed c f))) e).flows),
  )

pub apply-keeps : (s : State) (o : Order) (kind : ℕ) → Readable kind o → StateRules s → StateRules (apply s o).next
unfolding apply decide perform refuse findings
apply-keeps s o kind p r = go o p (first_cause (findings s o)) refl
  where
    go : (o : Order) → Readable kind o → (x : Option Cause) → first_cause (findings s o) ≡ x → StateRules (decide s o x).next
    go o p (some c) e = r
    go (register f) p none e = register-keeps s f p.1 (register-rules s f (none-applies _ e)) r
    go (release n) p none e = clear-keeps s (index_of n s.slots) r
    go (change c) p none e = change-keeps s c p.1 r (none-applies _ e)
    go (rejected code) p none e = r

pub final-keeps : (s : State) (calls : List Call) → StateRules s → StateRules (final s calls)
unfolding final after_orders step
final-keeps s [] r = r
final-keeps s (c ∷ calls) r = final-keeps (step s c).next calls (apply-keeps s (call_order c) (kind_number c.kind) (call-readable c) r)

-- Any text, any calls.
pub reached : (text : List ℕ) (calls : List Call) → StateRules (final (opened text) calls)
reached text calls = final-keeps (opened text) calls (opened-rules text)
