-- `flow_check::slot_stands` meets its contract, test by test.
use mathlib.Core.Path.{sym, ap, ◌∙◌}
use native.Mathlib.Omega.{arith}
use borrow.Author.Tests.{lt-leb}
use lib.ListN.{length}
use Rattle.model.specs.Orders.{Head}
use Rattle.queue_table.specs.View.{table_of}
use Rattle.flow_store.proofs.ViewLaws.{path_inside, entries-long}
use Rattle.flow_check.proofs.SlotLaws.{Ranged, judged-free, judged-range, judged-few, judged-small, judged-twice, judged-marked, judged-frame, judged-path}
use Rattle.flow_check.proofs.slot_stands.Goals as goal

pub returns-then-not-is_held-clause-value : goal.returns-then-not-is_held-clause-value
returns-then-not-is_held-clause-value c =
    sym (judged-free (table_of c.args.table.now) c.args.slot c.requires.1 c.requires.2 c.requires.3 (sym c.is_held.ensures ∙ c.if-not-is_held.true)).0

pub returns-then-not-is_held-clause-marked : goal.returns-then-not-is_held-clause-marked
returns-then-not-is_held-clause-marked c =
    λ e. (judged-free (table_of c.args.table.now) c.args.slot c.requires.1 c.requires.2 c.requires.3 (sym c.is_held.ensures ∙ c.if-not-is_held.true)).1

pub returns-then-not-in_range-clause-value : goal.returns-then-not-in_range-clause-value
returns-then-not-in_range-clause-value c =
    let held = sym c.is_held.ensures ∙ c.if-not-is_held.false in
    sym (judged-range (table_of c.args.table.now) c.args.slot c.requires.1 c.requires.2 held c.flow_at-flow.result c.flow_at-flow.ensures.result_value (sym c.in_range.ensures ∙ c.if-not-in_range.true))

pub mark-requires : goal.mark-requires
mark-requires c =
    let held = sym c.is_held.ensures ∙ c.if-not-is_held.false in
    let read = c.flow_at-flow in
    let ranged : Ranged c.args.slot c.args.bits.now c.args.store.now read.result =
    record {
      stored = c.requires.1;
      inside = c.requires.2;
      held = held;
      fields = read.ensures.result_value;
      range = sym c.in_range.ensures ∙ c.if-not-in_range.false;
    } in
    (c.requires.3.long, judged-small (table_of c.args.table.now) ranged)

pub returns-then-mark-clause-value : goal.returns-then-mark-clause-value
returns-then-mark-clause-value c =
    let held = sym c.is_held.ensures ∙ c.if-not-is_held.false in
    let read = c.flow_at-flow in
    let ranged : Ranged c.args.slot c.args.bits.now c.args.store.now read.result =
    record {
      stored = c.requires.1;
      inside = c.requires.2;
      held = held;
      fields = read.ensures.result_value;
      range = sym c.in_range.ensures ∙ c.if-not-in_range.false;
    } in
    sym (judged-twice (table_of c.args.table.now) ranged c.requires.3 (sym c.mark.ensures.0 ∙ c.if-mark.true))

pub path_of-requires : goal.path_of-requires
path_of-requires c =
    let held = sym c.is_held.ensures ∙ c.if-not-is_held.false in
    (c.requires.1.store_long, c.requires.2, path_inside c.args.bits.now c.args.store.now c.requires.1.packed c.args.slot c.requires.2 held)

pub path_stands-requires : goal.path_stands-requires
path_stands-requires c =
    let held = sym c.is_held.ensures ∙ c.if-not-is_held.false in
    let read = c.flow_at-flow in
    let ranged : Ranged c.args.slot c.args.bits.now c.args.store.now read.result =
    record {
      stored = c.requires.1;
      inside = c.requires.2;
      held = held;
      fields = read.ensures.result_value;
      range = sym c.in_range.ensures ∙ c.if-not-in_range.false;
    } in
    let count = ap (λ (h : Head). h.hops) read.ensures.result_value in
    let long = ap length c.path_of.ensures ∙ entries-long c.args.store.now c.requires.1.store_long c.args.slot (path_inside c.args.bits.now c.args.store.now c.requires.1.packed c.args.slot c.requires.2 held) in
    (c.requires.0, omega (arith, count, long, judged-few (table_of c.args.table.now) ranged))

pub returns-then-flow-clause-value : goal.returns-then-flow-clause-value
returns-then-flow-clause-value c =
    let held = sym c.is_held.ensures ∙ c.if-not-is_held.false in
    let read = c.flow_at-flow in
    let ranged : Ranged c.args.slot c.args.bits.now c.args.store.now read.result =
    record {
      stored = c.requires.1;
      inside = c.requires.2;
      held = held;
      fields = read.ensures.result_value;
      range = sym c.in_range.ensures ∙ c.if-not-in_range.false;
    } in
    c.path_stands.ensures ∙ rw c.path_of.ensures (sym (judged-path (table_of c.args.table.now) ranged c.requires.3 (sym c.mark.ensures.0 ∙ c.if-mark.false) c.if-flow.true))

pub returns-then-flow-clause-marked : goal.returns-then-flow-clause-marked
returns-then-flow-clause-marked c =
    let held = sym c.is_held.ensures ∙ c.if-not-is_held.false in
    let read = c.flow_at-flow in
    let ranged : Ranged c.args.slot c.args.bits.now c.args.store.now read.result =
    record {
      stored = c.requires.1;
      inside = c.requires.2;
      held = held;
      fields = read.ensures.result_value;
      range = sym c.in_range.ensures ∙ c.if-not-in_range.false;
    } in
    λ e. judged-marked (table_of c.args.table.now) ranged c.requires.3 (sym c.mark.ensures.0 ∙ c.if-mark.false) c.mark.ensures.1

pub returns-else-flow-clause-value : goal.returns-else-flow-clause-value
returns-else-flow-clause-value c =
    let held = sym c.is_held.ensures ∙ c.if-not-is_held.false in
    let read = c.flow_at-flow in
    let ranged : Ranged c.args.slot c.args.bits.now c.args.store.now read.result =
    record {
      stored = c.requires.1;
      inside = c.requires.2;
      held = held;
      fields = read.ensures.result_value;
      range = sym c.in_range.ensures ∙ c.if-not-in_range.false;
    } in
    lt-leb read.result.share.frame.0 read.result.share.burst.0 c.if-flow.false
    ∙ sym (judged-frame (table_of c.args.table.now) ranged c.requires.3 (sym c.mark.ensures.0 ∙ c.if-mark.false) c.if-flow.false)
