-- A change on consistent flows: there is no cause against it exactly when the flows with this one so changed are consistent. Without the flow they are a
-- part; so changed it is a flow more, which has its number, path and room already. Assumes nothing.
use Rattle.std.specs.Prelude.{ℕ, ◌+◌, ◌≤◌, ◌≡◌, refl, true, ◌&&◌, get_or, set, ltb}
use Rattle.std.proofs.Math.Path.{subst}
use Rattle.std.proofs.Math.Bool.{cond}
use mathlib.Core.List.Permᴰ
use mathlib.Core.List.{List, ◌∷◌, Permᴰ}
use Rattle.std.proofs.Math.Option.{Option, none, some}
use Rattle.std.proofs.Common.{arith, eq-eqb}
use Rattle.model.specs.Total.{total}
use Rattle.model.specs.QueueTable.{Table}
use Rattle.model.specs.Orders.{Flow, Change, number_in_range, rate_in_range, burst_in_range, frame_in_range, change_in_range, head_in_range}
use Rattle.model.specs.Part.{skip}
use Rattle.model.proofs.Laws.Part.{part-refl, perm-part}
use Rattle.model.proofs.Laws.Test.{and_both, both-and}
use Rattle.model.specs.Reference.{Slot, Cause, held_flows, held_hops, with_number, whole, line_findings, deadline_finding, link_findings, changed}
use Rattle.model.specs.Outcomes.{NoneApplies}
use Rattle.model.specs.Consistent.{head_of, flow_in_range}
use Rattle.model.proofs.Laws.LinkMeets.{findings-meet, meet-findings}
use Rattle.model.proofs.Laws.Slot.{held-inside, held-perm, put-perm}
use Rattle.model.proofs.Laws.Consistent.{FlowRules, FlowsRules, flows-part, flows-more}

-- The numbers that a change gives are in their ranges, and so are those that it keeps.
pub changed-range : (c : Change) (f : Flow) → change_in_range c ≡ true → flow_in_range f ≡ true → flow_in_range (changed c f) ≡ true
unfolding change_in_range changed flow_in_range head_in_range head_of
changed-range c f e e' =
    let (own, burst) = and_both (number_in_range c.number && rate_in_range c.rate) _ e in
    let (head, hops) = and_both (head_in_range (head_of f)) _ e' in
    let (sent, deadline) = and_both (number_in_range f.number && rate_in_range f.rate && burst_in_range f.burst && frame_in_range f.frame) _ head in
    let (source, frame) = and_both (number_in_range f.number && rate_in_range f.rate && burst_in_range f.burst) _ sent in
    let (first, held-burst) = and_both (number_in_range f.number && rate_in_range f.rate) _ source in
    both-and
    (both-and
    (both-and (both-and (both-and (and_both (number_in_range f.number) _ first).0 (and_both (number_in_range c.number) _ own).1) burst) frame)
    deadline)
    hops

-- The flow `f` in a slot, beside the others.
module _ (t : Table) (slots : List Slot) (i : ℕ) {f : Flow} (held : get_or slots i none ≡ some f) (rules : FlowsRules t (held_flows slots)) where
  abbrev others : List Flow
  others = held_flows (set slots i none)

  apart : FlowsRules t (f ∷ others)
  apart = flows-part t (perm-part (Permᴰ.symm (held-perm slots i held))) rules

  alone : FlowRules t (f ∷ others) f
  alone = apart.flows.0

  pub no_other : with_number f.number others ≡ 0
  unfolding with_number total
  no_other = omega (arith, subst (λ b. cond b 1 0 + with_number f.number others ≤ 1) (eq-eqb f.number f.number refl) alone.number)

  module _ (c : Change) where
    abbrev after : List Flow
    after = held_flows (set slots i (some (changed c f)))

    -- The findings of `change_findings` from 17 on.
    abbrev against : List (Option Cause)
    against = whole 17 (ltb c.burst f.frame) ∷ link_findings t (changed c f ∷ others) f.path

    beside : Permᴰ after (changed c f ∷ others)
    beside = put-perm slots i (changed c f) (held-inside slots i held)

    pub changed-rules : change_in_range c ≡ true → NoneApplies against → FlowsRules t after
    unfolding changed line_findings deadline_finding held_hops with_number total
    changed-rules range a =
        flows-part t (perm-part beside)
        (flows-more t (changed c f) others (flows-part t (skip (part-refl others)) apart) apart.slots (omega (arith, apart.hops)) no_other
        (record {
          range = changed-range c f range alone.range;
          number = rw (eq-eqb f.number f.number refl) (omega (arith, no_other));
          line = (a.0, alone.line.1);
          deadline = alone.deadline;
          links = findings-meet t (changed c f ∷ others) f.path a.1;
        }))

    pub rules-changed : FlowsRules t after → NoneApplies against
    unfolding changed line_findings
    rules-changed r =
        let own = (flows-part t (perm-part (Permᴰ.symm beside)) r).flows.0 in
        (own.line.0, meet-findings t (changed c f ∷ others) f.path own.links)
