-- `admission::register_flow` meets its contract: each leaf answers its part of the findings, in their order.
use Rattle.std.specs.Prelude.{Result, Ok}
use Rattle.std.proofs.lemmas.Result.{err_from_is_err_and}
use Prim.Native.Nat.{ℕ}
use mathlib.Core.Path.{◌≡◌, sym, ◌∙◌}
use mathlib.Core.List.{List}
use mathlib.Core.Option.{none}
use native.Mathlib.Omega.{arith}
use lib.ListN.{length}
use Rattle.causes.specs.declared.Cause.{Cause}
use Rattle.causes.specs.View.{finding_of}
use Rattle.units.specs.View.{aggregate_of, AtSource}
use Rattle.model.specs.Orders as line
use Rattle.model.specs.Orders.{register}
use Rattle.model.specs.Reference.{State, held_flows, first_cause, room_findings, findings}
use Rattle.model.specs.Outcomes.{early_findings}
use Rattle.flow_check.specs.View as checks
use Rattle.orders.specs.View.{line_flow}
use Rattle.figures.specs.View.{Hops, PathChecked}
use Rattle.figures.proofs.SizeLaws.{limited-below}
use Rattle.admission.specs.View.{state_of, ConsistentArrays}
use Rattle.admission.proofs.StepLaws.{early-cause, room-cause, links-cause}
use Rattle.admission.proofs.ConsistentLaws.{stepped-refused, limited, held-named, hops-within, speeds-within, path-length, on-table, flow-of, numbers, hops-long, placeable, stepped-admitted}
use Rattle.admission.proofs.register_flow.Goals as goal
use Rattle.admission.proofs.register_flow.Goals.{After-judge_room}

-- The entries name the path.
module _ (c : After-judge_room) where
  abbrev s : State
  s = state_of c.args.table.now c.args.bits.now c.args.store.now

  abbrev f : line.Flow
  f = line_flow c.args.flow c.args.hops.now

  abbrev entries : List ℕ
  entries = c.entries-entries.result.now

  abbrev kept : ConsistentArrays c.args.table.now c.args.bits.now c.args.store.now c.args.figures.now
  kept = c.requires.consistent_arrays

  early : first_cause (early_findings s f) ≡ none
  early = sym c.in_ok-path.ensures.first

  named : checks.PathNamed c.args.flow c.args.hops.now c.args.table.now entries
  named = rw c.entries-entries.ensures c.in_ok-path.ensures.named

  hops : length f.path ≡ c.args.flow.hops
  hops = hops-long _ _ _ _ kept _ _ entries c.requires.line_read named

  on-queues : Hops c.args.table.now entries
  on-queues = hops-within _ _ _ _ kept _ named.queues (omega (arith, path-length _ _ _ _ kept _ _ entries c.requires.line_read named, c.requires.line_read.few))

  ranged : AtSource (aggregate_of c.args.flow.share)
  ranged = numbers _ _ _ _ kept _ _ entries c.requires.line_read named

-- There is room, and this is the lowest free slot.
module _ (c : After-judge_room) (slot : ℕ) (judged : checks.RoomJudged c.args.flow.hops c.args.bits.now c.args.store.now (Ok slot)) where
  room : first_cause (room_findings (s c).slots (f c)) ≡ none
  room = sym (judged.first (f c) (hops c))

-- What the check of the links tells.
module _ (c : After-judge_room) (slot : ℕ) (judged : checks.RoomJudged c.args.flow.hops c.args.bits.now c.args.store.now (Ok slot)) (r : Result (Unit {0}) Cause)
    (checked : PathChecked (aggregate_of c.args.flow.share) c.args.table.now c.args.figures.now (entries c) r) where
  found : first_cause (findings (s c) (register (f c))) ≡ finding_of r
  found =
      links-cause (s c) (f c) (early c) (room c slot judged)
      ∙ sym (checked.first (held_flows (s c).slots) (f c) (kept c).formed (on-table _ _ _ _ (kept c) _ _ (entries c) c.requires.line_read (named c))
      (flow-of _ _ _ _ (kept c) _ _ (entries c) c.requires.line_read (named c)) (kept c).exact (held-named _ _ _ _ (kept c)))

pub returns-in_err-path : goal.returns-in_err-path
returns-in_err-path c =
    let refused = err_from_is_err_and c.from_residual.result c.from_residual.ensures.1 in
    rw (refused.1, refused.2) (stepped-refused _ _ _ _ c.requires.consistent_arrays (register _) _ (early-cause _ _ (sym c.in_err-path.ensures.first)))

pub returns-in_err-slot : goal.returns-in_err-slot
returns-in_err-slot c =
    let at = (goal.at.returns-in_err-slot c).After-judge_room in
    let refused = err_from_is_err_and c.from_residual-in_err-slot.result c.from_residual-in_err-slot.ensures.1 in
    rw (refused.1, refused.2) (stepped-refused _ _ _ _ (kept at) (register _) _ (room-cause _ _ (early at) (sym (c.in_err-slot.ensures.first (f at) (hops at)))))

pub check_links-requires : goal.check_links-requires
check_links-requires c =
    let at = (goal.at.check_links-requires c).After-judge_room in
    record { at_source = ranged at; hops = on-queues at; speeds = (speeds-within _ _ _ _ (kept at) _ (named at).queues, limited _ _ _ _ (kept at)) }

pub returns-in_err-check_links : goal.returns-in_err-check_links
returns-in_err-check_links c =
    let at = (goal.at.returns-in_err-check_links c).After-judge_room in
    let refused = err_from_is_err_and c.from_residual-in_err-check_links.result c.from_residual-in_err-check_links.ensures.1 in
    rw (refused.1, refused.2) (stepped-refused _ _ _ _ (kept at) (register _) _ (found at _ c.in_ok-slot.ensures _ c.in_err-check_links.ensures))

pub insert-requires : goal.insert-requires
insert-requires c =
    let at = (goal.at.insert-requires c).After-judge_room in
    let judged = c.in_ok-slot.ensures in
    (placeable _ _ _ _ (kept at) _ _ (entries at) at.requires.line_read (named at) (room at _ judged) c.in_ok-slot.slot judged.slot, judged.slot)

pub add_path-requires : goal.add_path-requires
add_path-requires c =
    let at = (goal.at.add_path-requires c).After-judge_room in
    record { at_source = ranged at; hops = on-queues at; figures_len = ((kept at).exact.long, limited-below _ (limited _ _ _ _ (kept at))) }

pub returns : goal.returns
returns c =
    let at = (goal.at.returns c).After-judge_room in
    let judged = c.in_ok-slot.ensures in
    stepped-admitted _ _ _ _ (kept at) _ _ (entries at) at.requires.line_read (named at) (room at _ judged) c.in_ok-slot.slot judged.slot
    (found at _ judged _ c.in_ok-check_links.ensures) c.insert.ensures c.add_path.ensures
