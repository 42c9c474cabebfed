-- Every part of a consistent set of flows is consistent, in any order; and so is the set with a flow more against which there is no cause.
-- A link on the new flow's path is checked by its causes; at any other link nothing changes. Assumes nothing.
use Rattle.std.specs.Prelude.{ℕ, ◌+◌, ◌≤◌, ◌<◌, ◌≡◌, refl, Bool, true, false, cond, ◌&&◌, ◌||◌, List, [], ◌∷◌, ◌++◌, length, eqb}
use Rattle.std.proofs.Common.{sym, subst, le_trans, arith}
use Rattle.std.proofs.lemmas.Bool.{false≢true}
use Rattle.std.proofs.Math.Option.{none}
use Rattle.std.proofs.Math.Dec.{leb}
use borrow.Author.Tests.{eqb-true, eqb-false, ne_eqb, leb-true, le-leb}
use Rattle.model.specs.Words.{All, every, is_none}
use Rattle.model.specs.Total.{total}
use Rattle.model.specs.Part.{Part}
use Rattle.model.proofs.Laws.Part.{length_part, all-part}
use Rattle.model.proofs.Laws.Total.{total-part}
use Rattle.model.proofs.Laws.Test.{and_both, both-and, every-all, all-every}
use Rattle.model.proofs.Laws.All.{append-all, all_append, all-imp, all-imp₂}
use Rattle.model.specs.QueueTable.{Table}
use Rattle.model.specs.Orders.{Hop, Flow}
use Rattle.model.specs.Schedulable.{LinkMeets}
use Rattle.model.specs.Sizes.{slot_count, hop_entries}
use Rattle.model.specs.Reference.{held_hops, with_number, crosses, line_findings, deadline_finding, link_findings}
use Rattle.model.specs.Outcomes.{NoneApplies}
use Rattle.model.proofs.Laws.Finding.{none-applies, applies-none, is-none}
use Rattle.model.proofs.Laws.LinkMeets.{meets-part, meets-off, findings-meet, meet-findings}
use Rattle.model.specs.Consistent.{flow_in_range, flow_consistent, flows_consistent}

-- What a consistent flow meets, rule by rule.
pub record FlowRules (t : Table) (fs : List Flow) (f : Flow) : Type 0 where
  pub range : flow_in_range f ≡ true
  pub number : with_number f.number fs ≤ 1
  pub line : NoneApplies (line_findings t f)
  pub deadline : deadline_finding t f ≡ none
  pub links : All (λ h. LinkMeets t fs h.link) f.path

-- The same of a set of flows.
pub record FlowsRules (t : Table) (fs : List Flow) : Type 0 where
  pub flows : All (FlowRules t fs) fs
  pub slots : length fs ≤ slot_count
  pub hops : held_hops fs ≤ hop_entries

module _ (t : Table) (fs : List Flow) where
  flow-rules : (f : Flow) → flow_consistent t fs f ≡ true → FlowRules t fs f
  unfolding flow_consistent
  flow-rules f e =
      let (e₁, e₂) = and_both (flow_in_range f && leb (with_number f.number fs) 1) _ e in
      let (range, number) = and_both (flow_in_range f) (leb (with_number f.number fs) 1) e₁ in
      let found = none-applies _ (is-none _ e₂) in
      let (line, rest) = append-all (λ x. x ≡ none) (line_findings t f) (deadline_finding t f ∷ link_findings t fs f.path) found in
      record {
        range = range;
        number = leb-true _ _ number;
        line = line;
        deadline = rest.0;
        links = findings-meet t fs f.path rest.1;
      }

  rules-flow : (f : Flow) → FlowRules t fs f → flow_consistent t fs f ≡ true
  unfolding flow_consistent is_none
  rules-flow f r =
      both-and (both-and r.range (le-leb _ _ r.number))
      (rw (applies-none (line_findings t f ++ deadline_finding t f ∷ link_findings t fs f.path)
      (all_append (λ x. x ≡ none) (line_findings t f) (deadline_finding t f ∷ link_findings t fs f.path) r.line
      (r.deadline, meet-findings t fs f.path r.links))))

  pub flows-rules : flows_consistent t fs ≡ true → FlowsRules t fs
  unfolding flows_consistent
  flows-rules e =
      let (e₁, hops) = and_both (every (flow_consistent t fs) fs && leb (length fs) slot_count) (leb (held_hops fs) hop_entries) e in
      let (flows, slots) = and_both (every (flow_consistent t fs) fs) (leb (length fs) slot_count) e₁ in
      record {
        flows = all-imp fs flow-rules (every-all (flow_consistent t fs) fs flows);
        slots = leb-true _ _ slots;
        hops = leb-true _ _ hops;
      }

  pub rules-flows : FlowsRules t fs → flows_consistent t fs ≡ true
  unfolding flows_consistent
  rules-flows r =
      both-and (both-and (all-every (flow_consistent t fs) fs (all-imp fs rules-flow r.flows)) (le-leb _ _ r.slots))
      (le-leb _ _ r.hops)

-- Any part, in any order.
pub flows-part : (t : Table) {part fs : List Flow} → Part part fs → FlowsRules t fs → FlowsRules t part
unfolding with_number held_hops
flows-part t {part} {fs} p r =
    record {
      flows = all-imp part beside (all-part (FlowRules t fs) p r.flows);
      slots = le_trans (length_part p) r.slots;
      hops = le_trans (total-part _ p) r.hops;
    }
  where
    beside : (f : Flow) → FlowRules t fs f → FlowRules t part f
    beside f m =
        record {
          range = m.range;
          number = le_trans (total-part _ p) m.number;
          line = m.line;
          deadline = m.deadline;
          links = all-imp f.path (λ h. meets-part t p h.link) m.links;
        }

not-counted : (b : Bool) → ◌≡◌ {A = ℕ} (cond b 1 0) 0 → b ≡ false
not-counted true z = absurd (omega arith)
not-counted false z = refl

-- A number that no flow has.
numbers-differ : (n : ℕ) (fs : List Flow) → with_number n fs ≡ 0 → All (λ g. eqb g.number n ≡ false) fs
unfolding with_number total
numbers-differ n [] z = tt
numbers-differ n (g ∷ fs) z = (not-counted _ (omega arith), numbers-differ n fs (omega arith))

-- What holds at each link of a path holds at a link that it crosses.
pub crossed : (P : ℕ → Type 0) (n : ℕ) (path : List Hop) → All (λ h. P h.link) path → crosses n path ≡ true → P n
unfolding crosses
crossed P n [] a e = absurd (false≢true e)
crossed P n (h ∷ path) a e = go (eqb h.link n) refl (crossed P n path a.1) e
  where
    go : (b : Bool) → eqb h.link n ≡ b → (crosses n path ≡ true → P n) → (b || crosses n path) ≡ true → P n
    go true q r e = subst P (eqb-true _ _ q) a.0
    go false q r e = r e

-- A flow more.
pub flows-more : (t : Table) (f : Flow) (fs : List Flow) → FlowsRules t fs → length fs < slot_count → held_hops fs + length f.path ≤ hop_entries
    → with_number f.number fs ≡ 0
    → FlowRules t (f ∷ fs) f
    → FlowsRules t (f ∷ fs)
unfolding held_hops with_number total
flows-more t f fs r room hops new m =
    record {
      flows = (m, all-imp₂ fs beside (numbers-differ f.number fs new) r.flows);
      slots = room;
      hops = omega arith;
    }
  where
    link : (n : ℕ) → LinkMeets t fs n → (b : Bool) → crosses n f.path ≡ b → LinkMeets t (f ∷ fs) n
    link n l true on = crossed (LinkMeets t (f ∷ fs)) n f.path m.links on
    link n l false off = meets-off t f fs n off l

    beside : (g : Flow) → eqb g.number f.number ≡ false → FlowRules t fs g → FlowRules t (f ∷ fs) g
    beside g other n =
        record {
          range = n.range;
          number = rw (ne_eqb f.number g.number (λ e. eqb-false g.number f.number other (sym e))) (omega (arith, n.number));
          line = n.line;
          deadline = n.deadline;
          links = all-imp g.path (λ h l. link h.link l (crosses h.link f.path) refl) n.links;
        }
