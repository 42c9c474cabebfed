-- A link on no flow's path meets 21 to 23: its levels are empty and its speed is at least 1. So every link of a consistent state meets them.
-- Assumes nothing.
use Rattle.std.specs.Prelude.{ℕ, ◌≡◌, refl, Bool, true, false, List, [], ◌∷◌}
use Rattle.model.specs.Words.{All}
use Rattle.model.specs.QueueTable.{Table}
use Rattle.model.specs.Orders.{Flow}
use Rattle.model.specs.Aggregates.{level_aggregates}
use Rattle.model.specs.Schedulable.{LinkMeets}
use Rattle.model.specs.Reference.{State, held_flows, crosses}
use Rattle.model.specs.Consistent.{table_consistent}
use Rattle.model.proofs.Laws.LinkSteps.{empty-link}
use Rattle.model.proofs.Laws.Figures.{aggregate-uncrossed, levels-empty}
use Rattle.model.proofs.Laws.Bounds.{speed-range}
use Rattle.model.proofs.Laws.Consistent.{FlowRules, crossed}
use Rattle.model.proofs.Laws.Reached.{StateRules}

pub uncrossed-meets : (t : Table) (fs : List Flow) (link : ℕ) → table_consistent t ≡ true → All (λ f. crosses link f.path ≡ false) fs → LinkMeets t fs link
uncrossed-meets t fs link ok off =
    record {
      meets = λ k e.
          empty-link k.speed k.best_effort k.levels (level_aggregates t fs link 1 k.levels)
          (levels-empty t fs link 1 k.levels (λ p le. aggregate-uncrossed t (record { link = link; level = p }) fs off))
          (speed-range t ok link k e).0;
    }

-- A flow that crosses the link, or none.
by-crossing : {A : Type 0} (link : ℕ) (P : Flow → Type 0) (fs : List Flow) → All P fs → ((f : Flow) → P f → crosses link f.path ≡ true → A)
    → (All (λ f. crosses link f.path ≡ false) fs → A)
    → A
by-crossing link P [] a on off = off tt
by-crossing {A} link P (f ∷ fs) a on off = go (crosses link f.path) refl (λ e. by-crossing link P fs a.1 on (λ rest. off (e, rest)))
  where
    go : (b : Bool) → crosses link f.path ≡ b → (crosses link f.path ≡ false → A) → A
    go true e later = on f a.0 e
    go false e later = later e

pub consistent-meets : (s : State) → StateRules s → (link : ℕ) → LinkMeets s.table (held_flows s.slots) link
consistent-meets s r link =
    let fs : List Flow = held_flows s.slots in
    by-crossing link (FlowRules s.table fs) fs r.flows.flows
    (λ f rules on. crossed (LinkMeets s.table fs) link f.path rules.links on)
    (uncrossed-meets s.table fs link r.table)
