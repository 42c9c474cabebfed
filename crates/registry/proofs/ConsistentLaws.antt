-- When a registry is consistent, part by part: its table, each flow by itself, the figures, the links.
-- Assumes nothing.
use Prim.Native.Nat.{ℕ, ◌+◌}
use mathlib.Core.Path.{◌≡◌}
use mathlib.Core.Bool.{true, ◌&&◌}
use mathlib.Core.List.{List, [], ◌∷◌, ◌++◌}
use mathlib.Core.Option.{none}
use native.Mathlib.Omega.{arith}
use lib.ListN.{length}
use lib.Dec.{leb}
use borrow.Author.Tests.{leb-true}
use Rattle.model.specs.Words.{All, every}
use Rattle.model.specs.Sizes.{links_most, levels_most}
use Rattle.model.specs.QueueTable.{Table}
use Rattle.model.specs.Orders.{Hop, Flow}
use Rattle.model.specs.Schedulable.{Named, LinkMeets}
use Rattle.model.specs.Reference.{held_flows, with_number, line_findings, deadline_finding}
use Rattle.model.specs.Consistent.{flow_in_range, table_consistent, link_consistent}
use Rattle.model.proofs.Laws.Test.{and_both, every-all}
use Rattle.model.proofs.Laws.All.{append-all, all-imp, member-all}
use Rattle.model.proofs.Laws.Columns.{between-true}
use Rattle.model.proofs.Laws.Finding.{none-applies, is-none}
use Rattle.model.proofs.Laws.Slot.{held-length}
use Rattle.model.proofs.Laws.Consistent.{FlowRules}
use Rattle.model.proofs.Laws.Reached.{StateRules, rules-state}
use Rattle.model.proofs.Laws.Schedulable.{link-bounds, named}
use Rattle.model.proofs.Laws.Bounds.{speed-below}
use Rattle.queue_table.specs.View.{table_numbers, link_count, WellFormed, table_of, link_at, levels_at, queue_at}
use Rattle.queue_table.proofs.ViewLaws.{length_up}
use Rattle.queue_table.proofs.LookupLaws.{link-found}
use Rattle.flow_store.specs.View.{PackedStore, slots_of}
use Rattle.flow_store.specs.Laws.{length-slots}
use Rattle.flow_store.proofs.ViewLaws.{held-hops}
use Rattle.flow_check.specs.View.{flow_alone}
use Rattle.figures.specs.View.{Figures, LinkSpeeds}
use Rattle.admission.specs.View.{state_of, ConsistentArrays}

module _ (t : Table) (fs : List Flow) where
  alone-rules : ((link : ℕ) → LinkMeets t fs link) → (f : Flow) → flow_alone t fs f ≡ true → FlowRules t fs f
  unfolding flow_alone
  alone-rules meets f e =
      let (e₁, found) = and_both (flow_in_range f && leb (with_number f.number fs) 1) _ e in
      let (range, number) = and_both (flow_in_range f) (leb (with_number f.number fs) 1) e₁ in
      let (line, rest) = append-all (λ x. x ≡ none) (line_findings t f) (deadline_finding t f ∷ []) (none-applies _ (is-none _ found)) in
      record {
        range = range;
        number = leb-true _ _ number;
        line = line;
        deadline = rest.0;
        links = member-all (λ (h : Hop). LinkMeets t fs h.link) f.path (λ h on. meets h.link);
      }

module _ (table : List ℕ) where
  abbrev t : Table
  t = table_of table

  pub formed-of : length table ≡ table_numbers → table_consistent t ≡ true → WellFormed table
  unfolding table_consistent table_of link_at
  formed-of long ok =
      record {
        long = long;
        few = omega (arith, length_up (link_count table) (link_at table), leb-true (length t) links_most (and_both (every link_consistent t) _ ok).1);
        shallow = λ i lt.
            omega (arith, length_up (levels_at table i) (queue_at table i), (between-true 1 levels_most _ (link-bounds t ok (i + 1) _ (link-found table i lt)).0).1);
      }

  pub speeds-of : table_consistent t ≡ true → LinkSpeeds table
  unfolding link_at
  speeds-of ok = record { each = λ i lt. speed-below t ok (i + 1) _ (link-found table i lt) }

  module _ (bits store : List ℕ) where
    abbrev held : List Flow
    held = held_flows (slots_of bits store)

    -- 14: the held flows are on queues of the table.
    pub alone-named : every (flow_alone t held) held ≡ true → All (λ g. All (Named t) g.path) held
    unfolding flow_alone line_findings
    alone-named alone = all-imp held each (every-all (flow_alone t held) held alone)
      where
        each : (g : Flow) → flow_alone t held g ≡ true → All (Named t) g.path
        each g e =
            let causes = (and_both (flow_in_range g && leb (with_number g.number held) 1) _ e).1 in
            named t [] g.path (none-applies (line_findings t g ++ deadline_finding t g ∷ []) (is-none _ causes)).1.0

    pub kept : {figures : List ℕ} → WellFormed table → PackedStore bits store → table_consistent t ≡ true → every (flow_alone t held) held ≡ true
        → Figures t held figures
        → ((link : ℕ) → LinkMeets t held link)
        → ConsistentArrays table bits store figures
    kept formed stored right alone exact meets =
        record { formed = formed; stored = stored; is-consistent = rules-state (state_of table bits store) rules; exact = exact }
      where
        rules : StateRules (state_of table bits store)
        rules =
            record {
              table = right;
              size = length-slots bits store;
              flows = record {
                flows = all-imp held (alone-rules t held meets) (every-all (flow_alone t held) held alone);
                slots = omega (arith, held-length (slots_of bits store), length-slots bits store);
                hops = omega (arith, held-hops bits store stored, stored.packed.fits);
              };
            }
