-- The count before request W-208, by which a hop added its whole threshold to S. It stands here for three facts of `Results` alone: nothing that it admitted is lost.
use Rattle.std.specs.Prelude.{ℕ, suc, ◌+◌, Bool, ◌&&◌, List, [], ◌∷◌, ◌++◌, map, length, set, leb, ltb}
use Rattle.std.proofs.Math.Option.{Option, none, some}
use Rattle.model.specs.Words.{every, is_none}
use Rattle.model.specs.Sizes.{slot_count, hop_entries}
use Rattle.model.specs.Columns.{Line}
use Rattle.model.specs.Formula.{Aggregate}
use Rattle.model.specs.QueueTable.{Queue, Link, Table}
use Rattle.model.specs.Orders.{Hop, Flow, Change, Order, register, release, change, rejected, order_line}
use Rattle.model.specs.LinkCheck.{link_finding}
use Rattle.model.specs.Aggregates.{Share, link_at, queue_at, threshold_of, source, grown, shares_at}
use Rattle.model.specs.Reference as now
use Rattle.model.specs.Reference.{Slot, State, Cause, Answer, Outcome, held_flows, held_hops, with_number, first_cause, whole, index_of, slot_with, changed, line_findings, deadline_finding, room_findings, link_cause, decide}
use Rattle.model.specs.Consistent.{flow_in_range}
use Rattle.model.specs.Outcomes.{early_findings}

-- The shares at the hops `path`, before which the thresholds sum to `sum`.
unfoldable pub shares : Table → Flow → (sum : ℕ) → (path : List Hop) → List Share
shares t f sum [] = []
shares t f sum (h ∷ path) =
    record { hop = h; adds = grown (source f) sum } ∷ shares t f (sum + threshold_of (queue_at t h)) path

unfoldable pub all_shares : Table → List Flow → List Share
all_shares t [] = []
all_shares t (f ∷ fs) = shares t f 0 f.path ++ all_shares t fs

unfoldable pub level_aggregates : Table → List Flow → (link n : ℕ) → List Queue → List Aggregate
level_aggregates t fs link n [] = []
level_aggregates t fs link n (q ∷ qs) = shares_at (record { link = link; level = n }) (all_shares t fs) ∷ level_aggregates t fs link (suc n) qs

-- 21 to 23 by that count.
unfoldable pub cause_at : Table → List Flow → (link : ℕ) → Option Link → Option Cause
cause_at t fs link none = none
cause_at t fs link (some k) = link_cause link (link_finding k.speed k.best_effort k.levels (level_aggregates t fs link 1 k.levels))

unfoldable pub link_findings : Table → List Flow → (path : List Hop) → List (Option Cause)
link_findings t fs path = map (λ h. cause_at t fs h.link (link_at t h.link)) path

-- A set of flows that is consistent by it; all else is as in `Consistent`.
unfoldable pub flow_consistent : Table → List Flow → Flow → Bool
flow_consistent t fs f =
    flow_in_range f
    && leb (with_number f.number fs) 1
    && is_none (first_cause (line_findings t f ++ deadline_finding t f ∷ link_findings t fs f.path))

unfoldable pub flows_consistent : Table → List Flow → Bool
flows_consistent t fs = every (flow_consistent t fs) fs && leb (length fs) slot_count && leb (held_hops fs) hop_entries

-- The causes against an order by it; all else is as in `Reference`.
unfoldable pub change_findings : State → Change → Slot → List (Option Cause)
change_findings s c none = now.change_findings s c none
change_findings s c (some f) =
    whole 17 (ltb c.burst f.frame) ∷ link_findings s.table (changed c f ∷ held_flows (set s.slots (index_of c.number s.slots) none)) f.path

unfoldable pub findings : State → Order → List (Option Cause)
findings s (register f) = early_findings s f ++ room_findings s.slots f ++ link_findings s.table (f ∷ held_flows s.slots) f.path
findings s (release n) = now.findings s (release n)
findings s (change c) = change_findings s c (slot_with c.number s.slots)
findings s (rejected code) = now.findings s (rejected code)

unfoldable pub apply : State → Order → Outcome
apply s o = decide s o (first_cause (findings s o))

-- The answers to the lines, order after order from the registry left behind.
unfoldable pub line_answers : State → List Line → List Answer
line_answers s [] = []
line_answers s (l ∷ ls) = (apply s (order_line l)).answer ∷ line_answers (apply s (order_line l)).next ls
