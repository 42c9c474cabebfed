-- What the array and the answers of this crate say in the terms of the model.
use Rattle.std.specs.Prelude.{ℕ, ◌+◌, ◌-◌, ◌*◌, ◌^◌, ◌≤◌, ◌<◌, max, ◌≡◌, Bool, true, false, List, [], ◌∷◌, map, length, get_or, set, Result}
use Rattle.std.proofs.Math.Option.{Option, none}
use Rattle.model.specs.Words.{All}
use Rattle.model.specs.Sizes.{levels_most, queues_most, hops_most}
use Rattle.model.specs.Total.{total, largest}
use Rattle.model.specs.Formula.{Aggregate, hop_growth}
use Rattle.model.specs.QueueTable.{Table}
use Rattle.model.specs.Orders.{Hop, Flow}
use Rattle.model.specs.Aggregates.{source, grown, aggregate_at}
use Rattle.model.specs.LinkCheck as check
use Rattle.model.specs.Schedulable.{Named, LinkMeets}
use Rattle.model.specs.WithFlow.{together}
use Rattle.model.specs.Reference.{Cause, link_cause, first_cause, link_findings, at_hop, met_earlier}
use Rattle.causes.specs.declared.Cause as code
use Rattle.causes.specs.View.{finding_of}
use Rattle.queue_table.specs.View.{up_to, entry_at, link_in, level_in, hop_at, table_numbers, link_count, speed_at, best_effort_at, threshold_at, queue_at, table_of, AllQueues, WellFormed}

-- How many numbers a queue has in the array, and where its burst sum and largest frame stand; its rate sum stands first.
abbrev pub own_numbers : ℕ
own_numbers = 3

abbrev pub burst_position : (e : ℕ) → ℕ
burst_position e = own_numbers * e + 1

abbrev pub frame_position : (e : ℕ) → ℕ
frame_position e = own_numbers * e + 2

-- How many numbers the array has.
abbrev pub figure_numbers : ℕ
figure_numbers = own_numbers * queues_most

-- The figures of queue `e`, named as hop entries name it.
unfoldable pub figure_at : (figures : List ℕ) (e : ℕ) → Aggregate
figure_at figures e = record { rate = get_or figures (own_numbers * e) 0; burst = get_or figures (burst_position e) 0; frame = get_or figures (frame_position e) 0 }

-- The figures of the eight levels of a link, counted from 0.
unfoldable pub level_figures : (figures : List ℕ) (link : ℕ) → List Aggregate
level_figures figures link = up_to levels_most (λ p. figure_at figures (entry_at link p))

-- The levels of the link of queue `e`, with the figures `own` there.
unfoldable pub levels_with : (figures : List ℕ) (e : ℕ) (own : Aggregate) → List Aggregate
levels_with figures e own = set (level_figures figures (link_in e)) (level_in e) own

-- The figures of queue `e` with a flow counted in, where S over its hops before is `sum`.
abbrev pub counted_at : (share : Aggregate) (figures : List ℕ) (e sum : ℕ) → Aggregate
counted_at share figures e sum = together (figure_at figures e) (grown share sum)

-- Figures with a flow counted by `share` in place of `was`. The largest frame stays.
unfoldable pub replaced : (own was share : Aggregate) → Aggregate
replaced own was share = record { rate = own.rate - was.rate + share.rate; burst = own.burst - was.burst + share.burst; frame = own.frame }

-- Those of queue `e`, as in `counted_at`.
abbrev pub changed_at : (was share : Aggregate) (figures : List ℕ) (e sum : ℕ) → Aggregate
changed_at was share figures e sum = replaced (figure_at figures e) (grown was sum) (grown share sum)

-- The figures of queue `e` are no less than the share of a flow there.
abbrev pub RoomAt : (share : Aggregate) (figures : List ℕ) (e sum : ℕ) → Type 0
RoomAt share figures e sum = (share.rate ≤ (figure_at figures e).rate) × ((grown share sum).burst ≤ (figure_at figures e).burst)

-- What the check of a link asks of its levels, with room for a best-effort frame of any 32 bits.
abbrev pub Summable : List Aggregate → Type 0
Summable levels = (total (λ a. a.rate) levels < 2 ^ 40) × (total (λ a. a.burst) levels + 2 * largest (λ a. a.frame) levels ≤ 2 ^ 39)

-- The array holds the figures of the flows.
pub record Figures (t : Table) (fs : List Flow) (figures : List ℕ) : Type 0 where
  pub long : length figures ≡ figure_numbers
  pub same : (e : ℕ) → e < queues_most → figure_at figures e ≡ aggregate_at t fs (hop_at e)

-- Each number of the array is at most so large.
abbrev pub Below : (bound : ℕ) (figures : List ℕ) → Type 0
Below bound figures = (j : ℕ) → get_or figures j 0 ≤ bound

-- The figures of a queue stored in the array.
unfoldable pub figure_stored : (figures : List ℕ) (e : ℕ) → Aggregate → List ℕ
figure_stored figures e a = set (set (set figures (own_numbers * e) a.rate) (burst_position e) a.burst) (frame_position e) a.frame

-- What queue `e` adds to S for the hops after it.
unfoldable pub growth_at : (table : List ℕ) (e : ℕ) → ℕ
growth_at table e = hop_growth (threshold_at table e) (speed_at table (link_in e))

-- A flow's share at any of its hops is at most this.
abbrev pub LimitedShare : Aggregate → Type 0
LimitedShare a = (a.rate ≤ 10000000) × (a.burst ≤ 2 ^ 31) × (a.frame ≤ 1542)

-- Figures with one flow more are at most this, where they were `Limited`.
abbrev pub LimitedLevel : Aggregate → Type 0
LimitedLevel a = (a.rate ≤ 20000000) × (a.burst ≤ 2 ^ 33) × (a.frame ≤ 1542)

-- Hop entries within the table's array, each of which adds no more to S than a threshold in its range.
pub record Hops (table entries : List ℕ) : Type 0 where
  pub table-long : length table ≡ table_numbers
  pub few : length entries ≤ hops_most
  pub each : All (λ e. (e < queues_most) × (growth_at table e ≤ 100000)) entries

-- A flow with this share at its source, on this path.
pub record FlowOf (share : Aggregate) (entries : List ℕ) (f : Flow) : Type 0 where
  pub is : source f ≡ share
  pub path-is : f.path ≡ map hop_at entries

-- What the path adds at each queue is counted in, and no number grew by more than 2 ^ 35.
pub record PathAdded (share : Aggregate) (table entries figures figures' : List ℕ) : Type 0 where
  pub long : length figures' ≡ figure_numbers
  pub same : (f : Flow) → AllQueues table entries → FlowOf share entries f
      → (e : ℕ) → e < queues_most → figure_at figures' e ≡ together (aggregate_at (table_of table) (f ∷ []) (hop_at e)) (figure_at figures e)
  pub below : (bound : ℕ) → Below bound figures → Below (bound + 2 ^ 35) figures'

-- The figures are those of some flows and of a flow with this path, so that it can be taken out.
pub record PathCounted (share : Aggregate) (table entries figures : List ℕ) : Type 0 where
  pub f : Flow
  pub fs : List Flow
  pub named : AllQueues table entries
  pub is : FlowOf share entries f
  pub exact : Figures (table_of table) (f ∷ fs) figures

-- The figures hold the flow by its new share. Free where that has another largest frame.
pub record PathChanged (was share : Aggregate) (table entries figures figures' : List ℕ) : Type 0 where
  pub long : length figures' ≡ figure_numbers
  pub same : (f g : Flow) (fs : List Flow) → AllQueues table entries → FlowOf was entries f → FlowOf share entries g → was.frame ≡ share.frame
      → Figures (table_of table) (f ∷ fs) figures
      → Figures (table_of table) (g ∷ fs) figures'

-- A queue whose rate sum is 0 has no largest frame.
abbrev pub Carried : Table → List Flow → Type 0
Carried t fs = (q : Hop) → (aggregate_at t fs q).rate ≡ 0 → (aggregate_at t fs q).frame ≡ 0

-- What a queue's largest frame becomes once a flow with the frame `frame` is taken out there and the rate sum is `rate`: 0
-- where no flow is left; as it was where it isn't the flow's own; else 0, and `again` says that it must be raised.
pub data FrameLeft (rate frame largest left : ℕ) (again : Bool) : Type 0 where
  no_flow : again ≡ false → rate ≡ 0 → left ≡ 0 → FrameLeft rate frame largest left again
  another : again ≡ false → 1 ≤ rate → frame < largest → left ≡ largest → FrameLeft rate frame largest left again
  unknown : again ≡ true → 1 ≤ rate → largest ≤ frame → left ≡ 0 → FrameLeft rate frame largest left again

-- A flow is taken out at queue `e`, with its share there.
pub record HopRemoved (share : Aggregate) (figures : List ℕ) (e : ℕ) (figures' : List ℕ) (again : Bool) : Type 0 where
  pub left : Aggregate
  pub stored : figures' ≡ figure_stored figures e left
  pub rate-left : left.rate + share.rate ≡ (figure_at figures e).rate
  pub burst-left : left.burst + share.burst ≡ (figure_at figures e).burst
  pub frame-left : FrameLeft left.rate share.frame (figure_at figures e).frame left.frame again

-- The figures `a` of a queue are right (`b`), its largest frame if `sure`; else that may be too small.
pub record Near (sure : Type 0) (a b : Aggregate) : Type 0 where
  pub rate : a.rate ≡ b.rate
  pub burst : a.burst ≡ b.burst
  pub low : a.frame ≤ b.frame
  pub frame : sure → a.frame ≡ b.frame

-- A path that names no queue twice.
abbrev pub Once : (entries : List ℕ) → Type 0
Once entries = (j k : ℕ) → j < k → k < length entries → get_or entries j 0 ≡ get_or entries k 0 → ⊥

-- What the path added at each queue is taken out, where a rate sum of 0 says that no flow is left (`Carried`). Figures off the path
-- stay, and so does a largest frame that isn't the flow's own where flows are left. `again` only where a queue of the path has flows left
-- and its largest frame must be raised. Free: `again` where the path names a queue twice; with
-- `again`, how far below the right one a largest frame on the path stands that may have been the flow's own.
pub record PathRemoved (share : Aggregate) (table entries figures figures' : List ℕ) (again : Bool) : Type 0 where
  pub long : length figures' ≡ figure_numbers
  pub left : (f : Flow) (fs : List Flow) → AllQueues table entries → FlowOf share entries f
      → Figures (table_of table) (f ∷ fs) figures → 1 ≤ share.rate → Carried (table_of table) fs
      → (e : ℕ) → e < queues_most → Near (again ≡ false) (figure_at figures' e) (aggregate_at (table_of table) fs (hop_at e))
  pub others : (e : ℕ) → All (λ x. e ≡ x → ⊥) entries → figure_at figures' e ≡ figure_at figures e
  pub kept : (e : ℕ) → 1 ≤ (figure_at figures' e).rate → share.frame < (figure_at figures e).frame → (figure_at figures' e).frame ≡ (figure_at figures e).frame
  pub must : again ≡ true → Once entries
      → (j : ℕ) × (j < length entries) × (1 ≤ (figure_at figures' (get_or entries j 0)).rate) × ((figure_at figures' (get_or entries j 0)).frame ≡ 0)

-- Figures with a largest frame of at least this.
unfoldable pub raised : Aggregate → (frame : ℕ) → Aggregate
raised a frame = record { rate = a.rate; burst = a.burst; frame = max a.frame frame }

-- The largest frame of a flow on this path is counted in at its queues; rate and burst sums stay.
pub record FrameRaised (frame : ℕ) (entries figures figures' : List ℕ) : Type 0 where
  pub long : length figures' ≡ figure_numbers
  pub same : (t : Table) (f : Flow) → f.frame ≡ frame → f.path ≡ map hop_at entries → (e : ℕ) → e < queues_most
      → figure_at figures' e ≡ raised (figure_at figures e) (aggregate_at t (f ∷ []) (hop_at e)).frame

-- The figures of a consistent registry stay below these numbers: a backlog that passed bounds the burst sum.
pub record Limited (figures : List ℕ) : Type 0 where
  pub long : length figures ≡ figure_numbers
  pub rates : (e : ℕ) → e < queues_most → (figure_at figures e).rate ≤ 10000000
  pub bursts : (e : ℕ) → e < queues_most → (figure_at figures e).burst ≤ 2 ^ 32
  pub frames : (e : ℕ) → e < queues_most → (figure_at figures e).frame ≤ 1542

-- The links of the hop entries, with speeds in their range.
pub record Speeds (table entries : List ℕ) : Type 0 where
  pub each : All (λ e. speed_at table (link_in e) ≤ 10000) entries

-- A path over queues of the table (14) that meets no link twice (16).
pub record OnTable (table entries : List ℕ) : Type 0 where
  pub named : AllQueues table entries
  pub once : at_hop 16 met_earlier [] (map hop_at entries) ≡ none

-- What the check of a link, counted from 0, finds with these figures of its eight levels.
abbrev pub finding_at : (table : List ℕ) (link : ℕ) (levels : List Aggregate) → check.Finding
finding_at table link = check.link_finding (speed_at table link) (best_effort_at table link) (up_to levels_most (queue_at table link))

-- What the check of the link of queue `e` finds with the figures `own` there.
abbrev pub cause_with : (table figures : List ℕ) (e : ℕ) (own : Aggregate) → Option Cause
cause_with table figures e own = link_cause (link_in e + 1) (finding_at table (link_in e) (levels_with figures e own))

-- The first of 21 to 23 along the path with the flow beside the others, which are on queues of the table. Free where a link is met twice or a queue
-- that the table lacks has figures.
pub record PathChecked (share : Aggregate) (table figures entries : List ℕ) (r : Result (Unit {0}) code.Cause) : Type 0 where
  pub first : (fs : List Flow) (f : Flow) → WellFormed table → OnTable table entries → FlowOf share entries f
      → Figures (table_of table) fs figures
      → All (λ g. All (Named (table_of table)) g.path) fs
      → finding_of r ≡ first_cause (link_findings (table_of table) (f ∷ fs) f.path)

-- The same with the flow `g` in place of the flow `f` that the figures hold. Free where `g` has another largest frame.
pub record ChangeChecked (was share : Aggregate) (table figures entries : List ℕ) (r : Result (Unit {0}) code.Cause) : Type 0 where
  pub first : (fs : List Flow) (f g : Flow) → WellFormed table → OnTable table entries → FlowOf was entries f → FlowOf share entries g
      → was.frame ≡ share.frame
      → Figures (table_of table) (f ∷ fs) figures
      → All (λ h. All (Named (table_of table)) h.path) fs
      → finding_of r ≡ first_cause (link_findings (table_of table) (g ∷ fs) g.path)

-- What the check of the eight levels of a link finds with these figures: the code of 21 to 23, or 0.
abbrev pub code_at : (table figures : List ℕ) (link : ℕ) → ℕ
code_at table figures link = (finding_at table link (level_figures figures link)).code

-- The links of the table, with speeds in their range.
pub record LinkSpeeds (table : List ℕ) : Type 0 where
  pub each : (link : ℕ) → link < link_count table → speed_at table link ≤ 10000

-- Whether every link of the table meets 21 to 23 with flows on its queues that have these figures. Free where no flows have them.
pub record LinksMet (table figures : List ℕ) (r : Bool) : Type 0 where
  pub sound : r ≡ true → (fs : List Flow) → Figures (table_of table) fs figures → All (λ g. All (Named (table_of table)) g.path) fs
      → (link : ℕ) → LinkMeets (table_of table) fs link
  pub complete : r ≡ false → (fs : List Flow) → Figures (table_of table) fs figures → All (λ g. All (Named (table_of table)) g.path) fs
      → ((link : ℕ) → LinkMeets (table_of table) fs link) → ⊥
