-- Document 01, "The run that the mission's third line speaks of": frames, links, a slot, an interval, an instant, runs and conforming sources.
-- Requests W-201, W-202: cables and best-effort frames. Instants are whole µs; a slot is the time of a bit, or one of any number of equal parts of it, so
-- that a best-effort frame may start at any moment. A flow is named by its index in the list of flows, a hop by its index in the path, both from 0.
use Rattle.std.specs.Prelude.{ℕ, zero, suc, ◌+◌, ◌-◌, ◌*◌, ◌≤◌, ◌≡◌, Bool, false, cond, length, leb, eqb}
use mathlib.Core.List.{List, [], ◌∷◌, ◌++◌, map, Permᴰ}
use Rattle.std.proofs.Math.Option.{Option, none, some}
use Rattle.std.proofs.Math.ListN.{get_elem?}
use Rattle.model.specs.Words.{All, filter, and_then, nth}
use Rattle.model.specs.Total.{total}
use Rattle.model.specs.QueueTable.{Queue, Link, Table}
use Rattle.model.specs.Orders.{Hop, Flow}
use Rattle.model.specs.Aggregates.{link_at, speed_of, fixed_delay_of, best_effort_of, same_hop}

-- A frame: its flow, the hop it is at, its bytes, the instant it reached this queue, and the instant its source sent it (which nothing here reads; `Delivery` does).
pub record Frame : Type 0 where
  pub flow : ℕ
  pub hop : ℕ
  pub length : ℕ
  pub since : ℕ
  pub born : ℕ

-- What is under way on a link: nothing, a frame of a level, or a best-effort frame; with the number of slots that follow its next one.
pub data Wire : Type 0 where
  idle : Wire
  sending : (level : ℕ) → Frame → (more : ℕ) → Wire
  sending_best_effort : (more : ℕ) → Wire

-- A link in the run: what is under way, the frames that wait at each level, level 1 first, and those that have left since the last instant.
pub record LinkState : Type 0 where
  pub wire : Wire
  pub levels : List (List Frame)
  pub left : List Frame

-- A frame that is taken, its level, and the levels without it.
pub record Pick : Type 0 where
  pub level : ℕ
  pub frame : Frame
  pub rest : List (List Frame)

-- The same frame, with an empty level before the others.
unfoldable pub past_empty : Option Pick → Option Pick
past_empty none = none
past_empty (some p) = some (record { level = p.level; frame = p.frame; rest = [] ∷ p.rest })

-- The first frame of the lowest-numbered level that has one; the levels are those from number `n` on.
unfoldable pub pick : (n : ℕ) → List (List Frame) → Option Pick
pick n [] = none
pick n ([] ∷ qs) = past_empty (pick (suc n) qs)
pick n ((f ∷ q) ∷ qs) = some (record { level = n; frame = f; rest = q ∷ qs })

-- The slots that so many bytes take: bytes on the wire have 8 bits, and a bit has `grain` slots.
unfoldable pub sending_time : (grain bytes : ℕ) → ℕ
sending_time grain bytes = 8 * (grain * bytes)

-- A best-effort frame of so many bytes is under way, and nothing of it is sent yet; 0 stands for none.
unfoldable pub start_best_effort : (grain bytes : ℕ) → LinkState → LinkState
start_best_effort grain zero l = l
start_best_effort grain (suc n) l =
    record { wire = sending_best_effort (sending_time grain (suc n) - 1); levels = l.levels; left = l.left }

-- The frame that was picked is under way, and nothing of it is sent yet. Only where none waits is it the best-effort frame that is offered.
unfoldable pub start : (grain offered : ℕ) → Option Pick → LinkState → LinkState
start grain offered none l = start_best_effort grain offered l
start grain offered (some p) l =
    record { wire = sending p.level p.frame (sending_time grain p.frame.length - 1); levels = p.rest; left = l.left }

-- A free link takes a frame, if one waits, else the best-effort frame that is offered.
unfoldable pub take : (grain offered : ℕ) → LinkState → LinkState
take grain offered l =
    elim l.wire [ idle ↦ start grain offered (pick 1 l.levels) l | sending n f more ↦ l | sending_best_effort more ↦ l ]

-- One slot of what is under way is sent. With its last slot a frame has left, a best-effort frame is gone, and the link is free.
unfoldable pub send : LinkState → LinkState
send l =
    elim l.wire [
      | idle ↦ l
      | sending n f zero ↦ record { wire = idle; levels = l.levels; left = l.left ++ (f ∷ []) }
      | sending n f (suc more) ↦ record { wire = sending n f more; levels = l.levels; left = l.left }
      | sending_best_effort zero ↦ record { wire = idle; levels = l.levels; left = l.left }
      | sending_best_effort (suc more) ↦ record { wire = sending_best_effort more; levels = l.levels; left = l.left }
    ]

-- One slot: a free link takes a frame, then one slot of it is sent.
unfoldable pub time_slot : (grain offered : ℕ) → LinkState → LinkState
time_slot grain offered l = send (take grain offered l)

-- So many slots; `offered` has what is offered in each, counted from 0.
unfoldable pub interval : (grain : ℕ) (offered : ℕ → ℕ) (count : ℕ) → LinkState → LinkState
interval grain offered zero l = l
interval grain offered (suc n) l = time_slot grain (offered n) (interval grain offered n l)

-- The queue of a frame's hop: the one that it stands in or reaches, on a cable the one that it has left; none once its path has ended.
unfoldable pub hop_of : List Flow → Frame → Option Hop
hop_of fs f = and_then (get_elem? fs f.flow) λ fl. get_elem? fl.path f.hop

-- A frame that comes off a cable reaches the next hop of its path at instant `x`.
unfoldable pub next : (x : ℕ) → Frame → Frame
next x f = record { flow = f.flow; hop = suc f.hop; length = f.length; since = x; born = f.born }

-- Each link, by its number, before the arrivals of each instant.
abbrev pub History : Type 0
History = (x link : ℕ) → LinkState

-- The frames that had left link `n` `ago` µs before instant `x`. It begins at instant 0, with no frame on a cable.
unfoldable pub left_ago : History → (n x ago : ℕ) → List Frame
left_ago before n x ago = cond (leb ago x) (before (x - ago) n).left []

-- What the cables of links 1 to `n` hand on at instant `x`: each the frames that left its link its fixed delay ago.
unfoldable pub handed_on : Table → History → (x n : ℕ) → List Frame
handed_on t before x zero = []
handed_on t before x (suc n) = handed_on t before x n ++ left_ago before (suc n) x (fixed_delay_of (link_at t (suc n)))

-- What moves at instant `x`: the frames that the cables hand on, then those that the sources add.
unfoldable pub moving : Table → History → (x : ℕ) → List Frame → List Frame
moving t before x sent = map (next x) (handed_on t before x (length t)) ++ sent

-- Whether a frame's queue is `q`.
abbrev pub is_at : Hop → Option Hop → Bool
is_at q none = false
is_at q (some h) = same_hop q h

-- Those of the frames that reach queue `q`.
unfoldable pub reaching : List Flow → (q : Hop) → List Frame → List Frame
reaching fs q = filter λ f. is_at q (hop_of fs f)

-- Each level, from number `n` on, gets its new frames behind those that wait.
unfoldable pub append : (ℕ → List Frame) → (n : ℕ) → List (List Frame) → List (List Frame)
append new n [] = []
append new n (q ∷ qs) = (q ++ new n) ∷ append new (suc n) qs

-- The arrivals of an instant at a link: each level gets its own, and what has left is on the cable.
unfoldable pub enter : (ℕ → List Frame) → LinkState → LinkState
enter new l = record { wire = l.wire; levels = append new 1 l.levels; left = [] }

-- No frame at any level; a link has as many levels as the table gives it.
unfoldable pub empty_levels : List Queue → List (List Frame)
empty_levels [] = []
empty_levels (q ∷ qs) = [] ∷ empty_levels qs

-- A link without a frame. A number that is no link's stands for one without levels, of speed 0.
unfoldable pub empty_link : Option Link → LinkState
empty_link none = record { wire = idle; levels = []; left = [] }
empty_link (some k) = record { wire = idle; levels = empty_levels k.levels; left = [] }

-- What a source may add at instant `x`: a frame of a flow, at its first hop, of 84 bytes up to the flow's largest.
pub record Sends (fs : List Flow) (x : ℕ) (f : Frame) : Type 0 where
  pub flow : Flow
  pub known : get_elem? fs f.flow ≡ some flow
  pub first : f.hop ≡ 0
  pub least : 84 ≤ f.length
  pub most : f.length ≤ flow.frame
  pub since : f.since ≡ x
  pub born : f.born ≡ x

-- A run. It has no end: each link, by its number, before and after the arrivals of each instant. From one instant to the next a link has `grain` slots
-- for each bit of its speed.
pub record Run (t : Table) (fs : List Flow) : Type 0 where
  pub grain : ℕ
  pub divided : 1 ≤ grain
  -- The best-effort frame that is offered to a link in a slot, counted from 0 after an instant: its bytes, at most the link's, 0 for none. Any choice.
  pub offered : (x link slot : ℕ) → ℕ
  pub offers : (x n slot : ℕ) → offered x n slot ≤ best_effort_of (link_at t n)
  -- What the sources add at an instant.
  pub sent : ℕ → List Frame
  pub sends : (x : ℕ) → All (Sends fs x) (sent x)
  pub before : History
  pub after : (x link : ℕ) → LinkState
  -- What reaches a queue at an instant, in the order in which it is appended: any order.
  pub arrivals : (x link level : ℕ) → List Frame
  pub any_order : (x : ℕ) (q : Hop) → Permᴰ (arrivals x q.link q.level) (reaching fs q (moving t before x (sent x)))
  pub starts : (n : ℕ) → before 0 n ≡ empty_link (link_at t n)
  pub enters : (x n : ℕ) → after x n ≡ enter (arrivals x n) (before x n)
  pub serves : (x n : ℕ) → before (suc x) n ≡ interval grain (offered x n) (grain * speed_of (link_at t n)) (after x n)

-- The sum of a function over `count` instants from `first` on.
unfoldable pub window : (ℕ → ℕ) → (first count : ℕ) → ℕ
window f first zero = 0
window f first (suc n) = window f first n + f (first + n)

-- The bytes of one flow.
unfoldable pub bytes_of : (flow : ℕ) → List Frame → ℕ
bytes_of j = total λ f. cond (eqb f.flow j) f.length 0

-- The source of each flow conforms: over instants s to s + t inclusive, 8000 × bytes is at most 8000 × b + r × t.
pub record Conforming (fs : List Flow) (sent : ℕ → List Frame) : Type 0 where
  pub bound : (j : ℕ) (f : Flow) → get_elem? fs j ≡ some f →
      (s t : ℕ) → 8000 * window (λ x. bytes_of j (sent x)) s (suc t) ≤ 8000 * f.burst + f.rate * t

-- The frame under way, if it is of level `n`. A best-effort frame is in no queue.
unfoldable pub on_wire : (n : ℕ) → Wire → List Frame
on_wire n idle = []
on_wire n (sending level f more) = cond (eqb n level) (f ∷ []) []
on_wire n (sending_best_effort more) = []

-- What waits at a level; nothing where there is no such level.
abbrev pub or_empty : Option (List Frame) → List Frame
or_empty none = []
or_empty (some q) = q

-- The frames in the queue of level `n`, waiting or under way: a frame under way counts whole in its queue.
unfoldable pub in_queue : (n : ℕ) → LinkState → List Frame
in_queue n l = on_wire n l.wire ++ or_empty (nth l.levels n)
