-- End to end: which frames reach their destination at an instant, when they are in time, and what it means that none is lost. `Results` has the theorems.
use Rattle.std.specs.Prelude.{ℕ, zero, suc, ◌+◌, ◌≤◌, ◌≡◌, cond, ◌&&◌, List, [], ◌∷◌, ◌++◌, eqb}
use Rattle.std.proofs.Math.Option.{some}
use Rattle.std.proofs.Math.ListN.{get_elem?}
use Rattle.model.specs.Words.{All, filter, is_none}
use Rattle.model.specs.Total.{total}
use Rattle.model.specs.QueueTable.{Table}
use Rattle.model.specs.Orders.{Hop, Flow}
use Rattle.model.specs.Aggregates.{link_at, fixed_delay_of}
use Rattle.model.specs.Reference.{path_delay}
use Rattle.model.specs.Run.{Frame, Run, History, left_ago, hop_of, moving, window, in_queue}

-- The frames that reach their destination at instant `x`, the cable of their last link behind them: of all that moves then, those whose path has ended.
unfoldable pub delivered : {t : Table} {fs : List Flow} → Run t fs → (x : ℕ) → List Frame
delivered {t} {fs} r x = filter (λ f. is_none (hop_of fs f)) (moving t r.before x (r.sent x))

-- A frame that is delivered at instant `x` is in time: its source sent it at most the sum of its path's thresholds and fixed delays ago, and at most its
-- deadline ago.
pub record InTime (t : Table) (fs : List Flow) (x : ℕ) (f : Frame) : Type 0 where
  pub flow : Flow
  pub known : get_elem? fs f.flow ≡ some flow
  pub path : x ≤ f.born + path_delay t flow.path
  pub deadline : x ≤ f.born + flow.deadline

-- A weight reads of a frame what the network never changes, the instant its source sent it and its bytes. These count the frames that are alike in both, and bytes.
unfoldable pub alike : (born length : ℕ) → ℕ → ℕ → ℕ
alike born length b n = cond (eqb b born && eqb n length) 1 0

abbrev pub any_birth : ℕ → ℕ → ℕ
any_birth born length = length

-- The weight of a frame, if it is of flow `j`.
unfoldable pub of_flow : (weight : ℕ → ℕ → ℕ) → (j : ℕ) → Frame → ℕ
of_flow weight j f = cond (eqb f.flow j) (weight f.born f.length) 0

-- The same, if it is also at hop `i` of its path.
unfoldable pub at_hop : (weight : ℕ → ℕ → ℕ) → (j i : ℕ) → Frame → ℕ
at_hop weight j i f = cond (eqb f.hop i) (of_flow weight j f) 0

-- The frames that left link `n` less than `d` µs before instant `x`, those that left at `x` among them.
unfoldable pub left_since : History → (n x d : ℕ) → List Frame
left_since before n x zero = []
left_since before n x (suc d) = left_since before n x d ++ left_ago before n x d

-- The frames on the cable of link `n` after the arrivals of instant `x`: those that left it less than its fixed delay ago.
unfoldable pub on_cable : {t : Table} {fs : List Flow} → Run t fs → (x n : ℕ) → List Frame
on_cable {t} r x n = left_since r.before n x (fixed_delay_of (link_at t n))

-- What is at a hop, after the arrivals of instant `x`: in its queue, waiting or under way, and behind it on the cable, which the levels of its link share.
unfoldable pub frames_at : {t : Table} {fs : List Flow} → Run t fs → (x : ℕ) → Hop → List Frame
frames_at r x h = in_queue h.level (r.after x h.link) ++ on_cable r x h.link

-- What is on a path, each frame of flow `j` at its own hop; the hops are those from index `i` on.
unfoldable pub along_path : {t : Table} {fs : List Flow} → Run t fs → (weight : ℕ → ℕ → ℕ) → (j x i : ℕ) → List Hop → ℕ
along_path r weight j x i [] = 0
along_path r weight j x i (h ∷ path) = total (at_hop weight j i) (frames_at r x h) + along_path r weight j x (suc i) path

-- What of flow `j` has been delivered in instants 0 to `x`.
unfoldable pub delivered_up_to : {t : Table} {fs : List Flow} → Run t fs → (weight : ℕ → ℕ → ℕ) → (j x : ℕ) → ℕ
delivered_up_to r weight j x = window (λ y. total (of_flow weight j) (delivered r y)) 0 (suc x)

-- What the source of flow `j` has sent in instants 0 to `x` is, after the arrivals of `x`, in the queues or on the cables of its path, or it has been
-- delivered.
abbrev pub Conserved : {t : Table} {fs : List Flow} → Run t fs → (x j : ℕ) → Flow → (weight : ℕ → ℕ → ℕ) → Type 0
Conserved r x j flow weight =
    window (λ y. total (of_flow weight j) (r.sent y)) 0 (suc x) ≡ along_path r weight j x 0 flow.path + delivered_up_to r weight j x

-- Up to instant `x` no frame is lost, none comes twice, and none strays: each flow has its frames, so many of each birth and length, and its bytes;
-- the queue that `h` names has only frames whose hop it is, and the cable of link `n` only frames with a hop on that link.
pub record NoneLost {t : Table} {fs : List Flow} (r : Run t fs) (x : ℕ) : Type 0 where
  pub frames : (j : ℕ) (flow : Flow) → get_elem? fs j ≡ some flow → (born length : ℕ) → Conserved r x j flow (alike born length)
  pub bytes : (j : ℕ) (flow : Flow) → get_elem? fs j ≡ some flow → Conserved r x j flow any_birth
  pub in_place : (h : Hop) → All (λ f. hop_of fs f ≡ some h) (in_queue h.level (r.after x h.link))
  pub on_link : (n : ℕ) → All (λ f. (level : ℕ) × (hop_of fs f ≡ some (record { link = n; level = level }))) (on_cable r x n)

-- All that the source of flow `j` sent at instant `born` has been delivered in instants 0 to `x`: so many frames of each length.
abbrev pub AllDelivered : {t : Table} {fs : List Flow} → Run t fs → (j born x : ℕ) → Type 0
AllDelivered r j born x = (length : ℕ) → total (of_flow (alike born length) j) (r.sent born) ≡ delivered_up_to r (alike born length) j x

-- Every frame of flow `j` arrives, within the sum of its path's thresholds and fixed delays, and within its deadline.
pub record Arrives {t : Table} {fs : List Flow} (r : Run t fs) (j : ℕ) (flow : Flow) : Type 0 where
  pub path : (born x : ℕ) → born + path_delay t flow.path ≤ x → AllDelivered r j born x
  pub deadline : (born x : ℕ) → born + flow.deadline ≤ x → AllDelivered r j born x
