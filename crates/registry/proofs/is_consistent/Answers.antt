-- `registry::is_consistent` meets its contract: what passes each test is consistent, and what is consistent passes each.
use mathlib.Core.Path.{◌≡◌, sym, ◌∙◌}
use mathlib.Core.Bool.{true, true≢false, false≢true}
use mathlib.Core.List.{List}
use Rattle.model.specs.Words.{every}
use Rattle.model.specs.Orders.{Flow}
use Rattle.model.specs.Reference.{held_flows}
use Rattle.model.specs.Consistent.{table_consistent}
use Rattle.model.proofs.Laws.Reached.{state-rules}
use Rattle.model.proofs.Laws.Uncrossed.{consistent-meets}
use Rattle.queue_table.specs.View.{WellFormed, table_of}
use Rattle.flow_store.specs.View.{PackedStore, slots_of}
use Rattle.flow_check.specs.View.{flow_alone}
use Rattle.figures.specs.View.{Figures}
use Rattle.recount.specs.View.{OnQueues}
use Rattle.admission.proofs.ConsistentLaws.{limited}
use Rattle.registry.proofs.ConsistentLaws.{formed-of, speeds-of, alone-named, kept}
use Rattle.admission.proofs.HeldLaws.{on-queues, countable, kept-alone}
use Rattle.registry.proofs.is_consistent.Goals as goal
use Rattle.registry.proofs.is_consistent.Tie as tie
use Rattle.registry.proofs.is_consistent.Lts as lts
use Rattle.registry.proofs.is_consistent.Reads as reads

-- The paths are packed, and the table passes 2 to 4.
module _ (c : lts.Else2 tie.the-claims reads.Pre reads.Post tie.handed_clauses) where
  abbrev start : lts.Start tie.the-claims reads.Pre reads.Post tie.handed_clauses
  start = c.before.before.before.before.before.before.before.before

  abbrev held : List Flow
  held = held_flows (slots_of start.args.bits.now start.args.store.now)

  right : table_consistent (table_of start.args.table.now) ≡ true
  right = sym c.consistent.ensures ∙ c.if-not-consistent.false

  stored : PackedStore start.args.bits.now start.args.store.now
  stored =
      record {
        bits-long = start.requires.bits-long;
        store_long = start.requires.store_long;
        packed = c.is_packed.ensures.packed (c.if-not-is_packed.false);
      }

  formed : WellFormed start.args.table.now
  formed = formed-of start.args.table.now start.requires.table-long right

-- Each held flow is right by itself.
module _ (c : lts.Else3 tie.the-claims reads.Pre reads.Post tie.handed_clauses) where
  abbrev at : lts.Else2 tie.the-claims reads.Pre reads.Post tie.handed_clauses
  at = c.before.before

  alone : every (flow_alone (table_of (start at).args.table.now) (held at)) (held at) ≡ true
  alone = sym c.held_flows.ensures ∙ c.if-not-held_flows.false

  on : OnQueues (start at).args.table.now (start at).args.bits.now (start at).args.store.now
  on = on-queues _ _ _ (formed at) (stored at) (right at) alone

-- The figures are those of the flows.
figures : (c : lts.Else4 tie.the-claims reads.Pre reads.Post tie.handed_clauses) → let at = at c.before.before in
    Figures (table_of (start at).args.table.now) (held at) (start at).args.figures.now
figures c = (c.figures_right.ensures.recounted (c.if-not-figures_right.false)).same (on c.before.before)

pub returns-then-not-is_packed : goal.returns-then-not-is_packed
returns-then-not-is_packed c = record { consistent_arrays = λ e. absurd (false≢true e); fact = λ e k. c.is_packed.ensures.fact (c.if-not-is_packed.true) k.stored.packed }

pub returns-then-not-consistent : goal.returns-then-not-consistent
returns-then-not-consistent c = record { consistent_arrays = λ e. absurd (false≢true e); fact = λ e k. true≢false (sym (state-rules _ k.is-consistent).table ∙ sym c.consistent.ensures ∙ c.if-not-consistent.true) }

pub held_flows-requires : goal.held_flows-requires
held_flows-requires c = (formed c.before, stored c.before)

pub returns-then-not-held_flows : goal.returns-then-not-held_flows
returns-then-not-held_flows c = record { consistent_arrays = λ e. absurd (false≢true e); fact = λ e k. true≢false (sym (kept-alone _ (state-rules _ k.is-consistent)) ∙ sym c.held_flows.ensures ∙ c.if-not-held_flows.true) }

pub figures_right-requires : goal.figures_right-requires
figures_right-requires c =
    (countable _ _ _ (formed (at c.before)) (stored (at c.before)) (right (at c.before)) (alone c.before), (start (at c.before)).requires.figures-long)

pub returns-then-not-figures_right : goal.returns-then-not-figures_right
returns-then-not-figures_right c = record { consistent_arrays = λ e. absurd (false≢true e); fact = λ e k. c.figures_right.ensures.other_figures (c.if-not-figures_right.true) (on c.before.before.before) k.exact }

pub returns-then-not-limited : goal.returns-then-not-limited
returns-then-not-limited c = record { consistent_arrays = λ e. absurd (false≢true e); fact = λ e k. true≢false (sym (c.limited.ensures.1 (limited _ _ _ _ k)) ∙ c.if-not-limited.true) }

pub links_meet-requires : goal.links_meet-requires
links_meet-requires c =
    let j = at c.before.before.before.before.before in record { well_formed = (formed j, c.limited.ensures.0 (c.if-not-limited.false)); link_speeds = speeds-of _ (right j) }

pub returns : goal.returns
returns c =
    let f = c.before.before.before.before in
    let a = f.before.before in
    let j = at a in
    let named = alone-named _ (start j).args.bits.now (start j).args.store.now (alone a) in record {
      consistent_arrays = λ e.
          kept _ (start j).args.bits.now (start j).args.store.now (formed j) (stored j) (right j) (alone a) (figures f)
          (c.links_meet.ensures.sound e (held j) (figures f) named);
      fact = λ e k. c.links_meet.ensures.complete e (held j) (figures f) named (consistent-meets _ (state-rules _ k.is-consistent));
    }
