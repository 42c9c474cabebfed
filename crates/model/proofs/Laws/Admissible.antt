-- A registration that was read answers 0 exactly when none of 12, 14 to 17, 30 and 31 is against it and it is admissible: cause by cause, the links' by their levels.
-- Assumes nothing.
use Rattle.std.specs.Prelude.{ℕ, ◌≤◌, ◌≡◌, true, ◌&&◌, ◌↔◌, length}
use Rattle.std.proofs.Common.{sym, ◌∙◌, subst, arith, ltb-false, le-ltb}
use mathlib.Core.List.{List, ◌∷◌, Memᴰ}
use Rattle.std.proofs.Math.Option.{none, some, some-injective}
use Rattle.model.specs.Words.{All}
use Rattle.model.specs.Sizes.{number_most, hops_most}
use Rattle.model.proofs.Laws.Columns.{between-true}
use Rattle.model.proofs.Laws.Test.{and_both}
use Rattle.model.specs.QueueTable.{Link, Table}
use Rattle.model.specs.Orders.{Hop, Flow, register, head_in_range, number_in_range, rate_in_range, burst_in_range, frame_in_range, hops_in_range}
use Rattle.model.specs.LinkCheck.{link_finding}
use Rattle.model.proofs.Laws.LinkCheck.{link-meets, meets-link}
use Rattle.model.proofs.Laws.Levels.{level-admits, admits-level}
use Rattle.model.specs.Aggregates.{link_at, level_aggregates}
use Rattle.model.specs.Schedulable.{LinkMeets}
use Rattle.model.specs.Reference.{State, held_flows, apply, deadline_finding, path_delay}
use Rattle.model.specs.Outcomes.{NoneOthers}
use Rattle.model.proofs.Laws.Finding.{whole-none, none-whole}
use Rattle.model.proofs.Laws.All.{all-member, member-all, all-imp}
use Rattle.model.proofs.Laws.LinkMeets.{findings-meet, meet-findings}
use Rattle.model.proofs.Laws.Carries.{frame-carries, carries-frame}
use Rattle.model.proofs.Laws.Reached.{StateRules}
use Rattle.model.specs.Consistent.{head_of, flow_in_range}
use Rattle.model.proofs.Laws.Reference.{RegisterRules, registered-zero}
use Rattle.model.specs.Admissible.{LinkAdmits, Admissible}

module _ (t : Table) (fs : List Flow) (frames : All (λ f. 1 ≤ f.frame) fs) (n : ℕ) (k : Link) (found : link_at t n ≡ some k) where
  pub meets-admits : LinkMeets t fs n → LinkAdmits t fs n k
  meets-admits m =
      let (rate, levels) = link-meets k.speed k.best_effort k.levels (level_aggregates t fs n 1 k.levels) (m.meets k found) in
      record { rate = rate; levels = λ p q e c. level-admits t fs n k levels p q e (carries-frame t _ fs frames c) }

  pub admits-meets : LinkAdmits t fs n k → LinkMeets t fs n
  admits-meets a =
      record {
        meets = λ k' e.
            subst
            (λ (k : Link). (link_finding k.speed k.best_effort k.levels (level_aggregates t fs n 1 k.levels)).code ≡ 0)
            (some-injective _ _ (sym found ∙ e))
            (meets-link k.speed k.best_effort k.levels (level_aggregates t fs n 1 k.levels) a.rate
            (admits-level t fs n k (λ p q e h. a.levels p q e (frame-carries t _ fs h))));
      }

-- What the ranges of a registration (11) say.
pub record FlowBounds (f : Flow) : Type 0 where
  pub number : f.number ≤ number_most
  pub rate : f.rate ≤ 10000000
  pub burst : f.burst ≤ 1000000
  pub frame : (84 ≤ f.frame) × (f.frame ≤ 1542)
  pub deadline : f.deadline ≤ 10000000
  pub hops : length f.path ≤ hops_most

pub flow-bounds : (f : Flow) → flow_in_range f ≡ true → FlowBounds f
unfolding flow_in_range head_in_range head_of number_in_range hops_in_range
flow-bounds f e =
    let (head, hops) = and_both (head_in_range (head_of f)) _ e in
    let (e₁, deadline) = and_both (number_in_range f.number && rate_in_range f.rate && burst_in_range f.burst && frame_in_range f.frame) _ head in
    let (e₂, frame) = and_both (number_in_range f.number && rate_in_range f.rate && burst_in_range f.burst) _ e₁ in
    let (e₃, burst) = and_both (number_in_range f.number && rate_in_range f.rate) _ e₂ in
    let (number, rate) = and_both (number_in_range f.number) _ e₃ in
    record {
      number = (between-true 1 number_most f.number number).1;
      rate = (between-true 1 10000000 f.rate rate).1;
      burst = (between-true 84 1000000 f.burst burst).1;
      frame = between-true 84 1542 f.frame frame;
      deadline = (between-true 1 10000000 f.deadline deadline).1;
      hops = (between-true 1 hops_most (length f.path) hops).1;
    }

-- The deadline's finding and eq. 14.
pub deadline-met : (t : Table) (f : Flow) → (deadline_finding t f ≡ none) ↔ (path_delay t f.path ≤ f.deadline)
unfolding deadline_finding
deadline-met t f = (λ e. ltb-false _ _ (whole-none 20 _ e), λ h. none-whole 20 _ (le-ltb _ _ h))

module _ (s : State) (f : Flow) (ok : StateRules s) (range : flow_in_range f ≡ true) where
  abbrev with-new : List Flow
  with-new = f ∷ held_flows s.slots

  frames : All (λ g. 1 ≤ g.frame) with-new
  frames = (
    omega (arith, (flow-bounds f range).frame.0),
    all-imp (held_flows s.slots) (λ g r. omega (arith, (flow-bounds g r.range).frame.0)) ok.flows.flows,
  )

  -- 0 if and only if none of 12, 14 to 17, 30 and 31 is against it and it is admissible.
  pub admissible : ((apply s (register f)).answer.code ≡ 0) ↔ (NoneOthers s f × Admissible s.table (held_flows s.slots) f)
  admissible =
      let (rules, zero) = registered-zero s f range in
      (λ z. let r = rules z in (r.others, to r), λ a. zero (from a.0 a.1))
    where
      to : RegisterRules s f → Admissible s.table (held_flows s.slots) f
      to r =
          let links = findings-meet s.table with-new f.path r.links in
          record {
            deadline = (deadline-met s.table f).0 r.deadline;
            links = λ h k on found.
                meets-admits s.table with-new frames h.link k found (all-member (λ h. LinkMeets s.table with-new h.link) links on);
          }

      meet : Admissible s.table (held_flows s.slots) f → (h : Hop) → Memᴰ h f.path → LinkMeets s.table with-new h.link
      meet a h on =
          record { meets = λ k found. (admits-meets s.table with-new frames h.link k found (a.links h k on found)).meets k found }

      from : NoneOthers s f → Admissible s.table (held_flows s.slots) f → RegisterRules s f
      from others a =
          record {
            others = others;
            deadline = (deadline-met s.table f).1 a.deadline;
            links = meet-findings s.table with-new f.path (member-all (λ h. LinkMeets s.table with-new h.link) f.path (meet a));
          }
