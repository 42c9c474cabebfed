-- What the count by whole thresholds carried out is carried out, just the same. A hop's part of S is at most its threshold, so no aggregate is larger than by that
-- count, and a link that met 21 to 23 by it meets them, by the monotone bounds of Laws/LinkCheck. Assumes nothing.
use Rattle.std.specs.Prelude.{ℕ, suc, ◌+◌, ◌≤◌, ◌≡◌, Bool, true, false, cond, ◌&&◌, length, eqb}
use Rattle.std.proofs.Common.{zero-le, ap, sym, ◌∙◌, subst, le_refl, mul-le-mul_left, arith, eqb-true}
use Rattle.std.proofs.Math.Path.{refl}
use mathlib.Core.List.{List, [], ◌∷◌, ◌++◌}
use Rattle.std.proofs.Math.Option.{Option, none, some}
use Rattle.std.proofs.Math.Dec.{leb}
use Rattle.std.proofs.lemmas.Bool.{eqb-false}
use Rattle.model.specs.Words.{All, Pairs, ends, pair, every, is_none}
use Rattle.model.specs.Sizes.{slot_count}
use Rattle.model.proofs.Laws.Total.{total_mono, largest-mono}
use Rattle.model.proofs.Laws.Test.{and_both, both-and, every-all, all-every}
use Rattle.model.proofs.Laws.All.{all-imp}
use Rattle.model.specs.Columns.{Line}
use Rattle.model.specs.Formula.{Aggregate, burst_at_hop}
use Rattle.model.proofs.Laws.Formula.{AtMost, ceil_div-mono, growth-most}
use Rattle.model.specs.QueueTable.{Queue, Link, Table}
use Rattle.model.specs.Orders.{Hop, Flow, Change, Order, register, release, change, rejected, order_line}
use Rattle.model.specs.LinkCheck.{Finding}
use Rattle.model.proofs.Laws.LinkCheck.{link-mono}
use Rattle.model.specs.Aggregates.{Share, link_at, queue_at, threshold_of, speed_of, source, grown, growth, shares, all_shares, same_hop, adds_at, shares_at, aggregate_at, level_aggregates}
use Rattle.model.specs.Reference.{Slot, State, Cause, Answer, Outcome, held_flows, with_number, first_cause, slot_with, change_findings, line_findings, deadline_finding, room_findings, link_cause, cause_at, link_findings, register_findings, findings, refuse, decide, apply, order_answers}
use Rattle.model.specs.Outcomes.{early_findings}
use Rattle.model.specs.Consistent.{flow_in_range, flow_consistent, flows_consistent}
use Rattle.model.specs.Batch.{line_answers}
use Rattle.model.specs.WholeThresholds as before
use Rattle.model.proofs.Laws.Finding.{Caused, is-none}
use Rattle.model.proofs.Laws.LinkMeets.{code-cause}

-- Two shares at one hop, of which the first adds at most what the second does.
record NoMore (e e' : Share) : Type 0 where
  hop : e.hop ≡ e'.hop
  adds : AtMost e.adds e'.adds

adds-mono : (q : Hop) (m : Aggregate → ℕ) → ((a b : Aggregate) → AtMost a b → m a ≤ m b) → (e e' : Share) → NoMore e e' → adds_at q m e ≤ adds_at q m e'
unfolding adds_at
adds-mono q m mono e e' r = rw r.hop (go (same_hop q e'.hop))
  where
    go : (b : Bool) → cond b (m e.adds) 0 ≤ cond b (m e'.adds) 0
    go true = mono _ _ r.adds
    go false = zero-le

at-mono : (q : Hop) {es es' : List Share} → Pairs NoMore es es' → AtMost (shares_at q es) (shares_at q es')
unfolding shares_at
at-mono q p =
    record {
      rate = total_mono NoMore _ (adds-mono q (λ a. a.rate) (λ a b r. r.rate)) p;
      burst = total_mono NoMore _ (adds-mono q (λ a. a.burst) (λ a b r. r.burst)) p;
      frame = largest-mono NoMore _ (adds-mono q (λ a. a.frame) (λ a b r. r.frame)) p;
    }

-- A burst grows with S.
grown-mono : (a : Aggregate) {sum sum' : ℕ} → sum ≤ sum' → AtMost (grown a sum) (grown a sum')
unfolding burst_at_hop
grown-mono a h =
    record {
      rate = le_refl a.rate;
      burst = omega (arith, ceil_div-mono _ _ 8000 8000 (mul-le-mul_left a.rate h) (omega arith) (le_refl 8000));
      frame = le_refl a.frame;
    }

-- No cause, or one whose code is 0.
abbrev Passed : Option Cause → Type 0
Passed = Caused (λ c. c.code ≡ 0)

cause-same : (link : ℕ) (w w' : Finding) → (w'.code ≡ 0 → w.code ≡ 0) → Passed (link_cause link w') → link_cause link w ≡ link_cause link w'
unfolding link_cause
cause-same link w w' mono = go (eqb w'.code 0) refl
  where
    go : (b : Bool) → eqb w'.code 0 ≡ b → let x : Option Cause = cond b none (some (record { code = w'.code; link = link; level = w'.level })) in
        Passed x → link_cause link w ≡ x
    go true e z = code-cause link w (mono (eqb-true _ _ e))
    go false e z = absurd (eqb-false _ _ e z)

-- The first cause is the same where each finding that passed is.
first-same : {l m : List (Option Cause)} → Pairs (λ x y. Passed y → x ≡ y) l m → Passed (first_cause m) → first_cause l ≡ first_cause m
unfolding first_cause
first-same ends z = refl
first-same (pair {y = none} r p) z = rw (r tt) (first-same p z)
first-same (pair {y = some c} r p) z = rw (r z)

module _ (t : Table) where
  -- A path's shares, before those of other flows.
  path-less : (f : Flow) {sum sum' : ℕ} → sum ≤ sum' → (path : List Hop) {es es' : List Share} → Pairs NoMore es es'
      → Pairs NoMore (shares t f sum path ++ es) (before.shares t f sum' path ++ es')
  unfolding shares before.shares
  path-less f h [] p = p
  path-less f {sum = sum} {sum' = sum'} h (g ∷ path) p =
      let later : sum + growth t g ≤ sum' + threshold_of (queue_at t g) = omega (arith, growth-most (threshold_of (queue_at t g)) (speed_of (link_at t g.link))) in
      pair (record { hop = refl; adds = grown-mono (source f) h }) (path-less f {sum = sum + growth t g} {sum' = sum' + threshold_of (queue_at t g)} later path p)

  all-less : (fs : List Flow) → Pairs NoMore (all_shares t fs) (before.all_shares t fs)
  unfolding all_shares before.all_shares
  all-less [] = ends
  all-less (f ∷ fs) = path-less f (le_refl 0) f.path (all-less fs)

  module _ (fs : List Flow) where
    levels-less : (link n : ℕ) (qs : List Queue) → Pairs AtMost (level_aggregates t fs link n qs) (before.level_aggregates t fs link n qs)
    unfolding level_aggregates before.level_aggregates aggregate_at
    levels-less link n [] = ends
    levels-less link n (q ∷ qs) = pair (at-mono _ (all-less fs)) (levels-less link (suc n) qs)

    link-same : (link : ℕ) (o : Option Link) → Passed (before.cause_at t fs link o) → cause_at t fs link o ≡ before.cause_at t fs link o
    unfolding cause_at before.cause_at
    link-same link none z = refl
    link-same link (some k) z = cause-same link _ _ (link-mono k.speed k.best_effort k.levels (levels-less link 1 k.levels)) z

    -- After other findings, the same.
    found-same : (l : List (Option Cause)) (path : List Hop)
        → Pairs (λ x y. Passed y → x ≡ y) (l ++ link_findings t fs path) (l ++ before.link_findings t fs path)
    unfolding link_findings before.link_findings
    found-same [] [] = ends
    found-same [] (h ∷ path) = pair (link-same h.link (link_at t h.link)) (found-same [] path)
    found-same (x ∷ l) path = pair (λ z. refl) (found-same l path)

    flow-less : (f : Flow) → before.flow_consistent t fs f ≡ true → flow_consistent t fs f ≡ true
    unfolding flow_consistent before.flow_consistent line_findings
    flow-less f e =
        let (others, passed) = and_both (flow_in_range f && leb (with_number f.number fs) 1) _ e in
        let same = first-same (found-same (line_findings t f ++ deadline_finding t f ∷ []) f.path) (subst Passed (sym (is-none _ passed)) tt) in
        both-and others (ap is_none same ∙ passed)

    pub flows-less : before.flows_consistent t fs ≡ true → flows_consistent t fs ≡ true
    unfolding flows_consistent before.flows_consistent
    flows-less e =
        let (e₁, hops) = and_both (every (before.flow_consistent t fs) fs && leb (length fs) slot_count) _ e in
        let (flows, slots) = and_both (every (before.flow_consistent t fs) fs) _ e₁ in
        both-and (both-and (all-every (flow_consistent t fs) fs (all-imp fs flow-less (every-all (before.flow_consistent t fs) fs flows))) slots) hops

pub order_same : (s : State) (o : Order) → (before.apply s o).answer.code ≡ 0 → apply s o ≡ before.apply s o
unfolding apply before.apply findings before.findings register_findings early_findings line_findings room_findings change_findings before.change_findings decide refuse
order_same s o z = ap (decide s o) (first-same (go o) (passed (first_cause (before.findings s o)) z))
  where
    passed : (x : Option Cause) → (decide s o x).answer.code ≡ 0 → Passed x
    passed none z = tt
    passed (some c) z = z

    same : (l : List (Option Cause)) → Pairs (λ x y. Passed y → x ≡ y) l l
    same [] = ends
    same (x ∷ l) = pair (λ z. refl) (same l)

    against : (c : Change) (x : Slot) → Pairs (λ x y. Passed y → x ≡ y) (change_findings s c x) (before.change_findings s c x)
    against c none = same _
    against c (some f) = found-same s.table _ (_ ∷ []) f.path

    go : (o : Order) → Pairs (λ x y. Passed y → x ≡ y) (findings s o) (before.findings s o)
    go (register f) = found-same s.table (f ∷ held_flows s.slots) (early_findings s f ++ room_findings s.slots f) f.path
    go (release n) = same _
    go (change c) = against c (slot_with c.number s.slots)
    go (rejected code) = same _

pub lines_same : (s : State) (ls : List Line) → All (λ a. a.code ≡ 0) (before.line_answers s ls) → line_answers s ls ≡ before.line_answers s ls
unfolding line_answers order_answers before.line_answers
lines_same s [] z = refl
lines_same s (l ∷ ls) z =
    ap (λ (out : Outcome). out.answer ∷ line_answers out.next ls) (order_same s (order_line l) z.0)
    ∙ ap (λ (m : List Answer). (before.apply s (order_line l)).answer ∷ m) (lines_same (before.apply s (order_line l)).next ls z.1)
