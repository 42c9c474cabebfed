-- Document 01, "The book": the plain book, here the reference model, with the causes of "Who can cause which refusal" in their order.
-- It is fed the table text and the calls, and nothing of the program.
use Rattle.std.specs.Prelude.{ℕ, suc, ◌+◌, Bool, true, false, cond, not, ◌||◌, List, [], ◌∷◌, ◌++◌, map, length, get_or, set, replicate, leb, ltb, eqb}
use Rattle.std.proofs.Math.Option.{Option, none, some}
use Rattle.model.specs.Words.{every, is_none, first_index}
use Rattle.model.specs.Sizes.{slot_count, hop_entries}
use Rattle.model.specs.Total.{total}
use Rattle.model.specs.Columns.{Line, ended, unended, lines, field_at}
use Rattle.model.specs.QueueTable.{Link, Table, TableText, accepted, refused, read_table}
use Rattle.model.specs.Orders.{Hop, Flow, Change, Order, register, release, change, rejected, Kind, kind_number, read_order}
use Rattle.model.specs.LinkCheck.{Finding, link_finding}
use Rattle.model.specs.Aggregates.{link_at, queue_at, threshold_of, fixed_delay_of, level_aggregates}

-- A slot: a flow as its line gave it, with the rate and burst of its last change, or none.
abbrev pub Slot : Type 0
Slot = Option Flow

-- The state: the table's links, none if the text was refused, and the slots.
pub record State : Type 0 where
  pub table : Table
  pub slots : List Slot

-- The flows in slots, lowest slot first.
unfoldable pub held_flows : List Slot → List Flow
held_flows [] = []
held_flows (none ∷ slots) = held_flows slots
held_flows (some f ∷ slots) = f ∷ held_flows slots

-- Held hop entries: the hop counts of the flows, summed.
unfoldable pub held_hops : List Flow → ℕ
held_hops fs = total (λ f. length f.path) fs

-- How many of the flows have this number.
unfoldable pub with_number : ℕ → List Flow → ℕ
with_number n fs = total (λ f. cond (eqb f.number n) 1 0) fs

-- A hop of the path is on this link.
unfoldable pub crosses : ℕ → List Hop → Bool
crosses n [] = false
crosses n (h ∷ path) = eqb h.link n || crosses n path

-- A hop's part of the sum held against the deadline: the threshold of its queue, and the fixed delay of its link.
abbrev pub hop_delay : Table → Hop → ℕ
hop_delay t h = threshold_of (queue_at t h) + fixed_delay_of (link_at t h.link)

-- That sum: thresholds plus fixed delays along a path.
unfoldable pub path_delay : Table → List Hop → ℕ
path_delay t path = total (hop_delay t) path

-- A cause: its code, and the link and level that an answer line has for it.
pub record Cause : Type 0 where
  pub code : ℕ
  pub link : ℕ
  pub level : ℕ

-- The first of the findings that applies.
unfoldable pub first_cause : List (Option Cause) → Option Cause
first_cause [] = none
first_cause (none ∷ more) = first_cause more
first_cause (some c ∷ more) = some c

-- A cause that names no hop and no queue, where the test finds it.
unfoldable pub whole : (code : ℕ) → Bool → Option Cause
whole code found = cond found (some (record { code = code; link = 0; level = 0 })) none

-- A cause at the first hop that the test finds; `earlier` are the hops before it, the nearest first.
unfoldable pub at_hop : (code : ℕ) (test : List Hop → Hop → Bool) (earlier : List Hop) → List Hop → Option Cause
at_hop code test earlier [] = none
at_hop code test earlier (h ∷ path) =
    cond (test earlier h) (some (record { code = code; link = h.link; level = h.level })) (at_hop code test (h ∷ earlier) path)

-- The nodes where a link starts and ends; 0 is no node.
unfoldable pub start : Option Link → ℕ
start none = 0
start (some l) = l.from

unfoldable pub end : Option Link → ℕ
end none = 0
end (some l) = l.to

-- 14 no such queue.
unfoldable pub no_queue : Table → (earlier : List Hop) → Hop → Bool
no_queue t earlier h = is_none (queue_at t h)

-- 16 a link met earlier on the path.
unfoldable pub met_earlier : (earlier : List Hop) → Hop → Bool
met_earlier earlier h = crosses h.link earlier

-- 15 a link doesn't start where the one before ended.
unfoldable pub starts_elsewhere : Table → (earlier : List Hop) → Hop → Bool
starts_elsewhere t [] h = false
starts_elsewhere t (before ∷ earlier) h = not (eqb (start (link_at t h.link)) (end (link_at t before.link)))

-- 12 flow number held already.
unfoldable pub number_finding : List Flow → Flow → Option Cause
number_finding held f = whole 12 (leb 1 (with_number f.number held))

-- 17 largest frame above burst; then 14 over all hops, 16 over all, 15 over all.
unfoldable pub line_findings : Table → Flow → List (Option Cause)
line_findings t f =
    whole 17 (ltb f.burst f.frame)
    ∷ at_hop 14 (no_queue t) [] f.path
    ∷ at_hop 16 met_earlier [] f.path
    ∷ at_hop 15 (starts_elsewhere t) [] f.path
    ∷ []

-- 20 deadline (eq. 14): the thresholds and fixed delays along the path must not sum above it.
unfoldable pub deadline_finding : Table → Flow → Option Cause
deadline_finding t f = whole 20 (ltb f.deadline (path_delay t f.path))

unfoldable pub is_held : Slot → Bool
is_held s = not (is_none s)

-- 30 all slots held; 31 held hop entries plus the path's exceed the hop entries.
unfoldable pub room_findings : List Slot → Flow → List (Option Cause)
room_findings slots f =
    whole 30 (every is_held slots) ∷ whole 31 (ltb hop_entries (held_hops (held_flows slots) + length f.path)) ∷ []

-- 21, 22 or 23 as an answer line has it: the link, and the failing queue's level, 0 for 21.
unfoldable pub link_cause : (link : ℕ) → Finding → Option Cause
link_cause link w = cond (eqb w.code 0) none (some (record { code = w.code; link = link; level = w.level }))

unfoldable pub cause_at : Table → List Flow → (link : ℕ) → Option Link → Option Cause
cause_at t fs link none = none
cause_at t fs link (some k) = link_cause link (link_finding k.speed k.best_effort k.levels (level_aggregates t fs link 1 k.levels))

-- Link by link along the path 21, and level by level 22 before 23, with the flows `fs`.
unfoldable pub link_findings : Table → List Flow → (path : List Hop) → List (Option Cause)
link_findings t fs path = map (λ h. cause_at t fs h.link (link_at t h.link)) path

-- The causes against a registration, after 10 and 11. The new flow is counted in at every hop.
unfoldable pub register_findings : State → Flow → List (Option Cause)
register_findings s f =
    number_finding (held_flows s.slots) f
    ∷ line_findings s.table f
    ++ deadline_finding s.table f
    ∷ room_findings s.slots f
    ++ link_findings s.table (f ∷ held_flows s.slots) f.path

-- Whether a slot holds the flow with this number.
unfoldable pub holds : ℕ → Slot → Bool
holds n none = false
holds n (some f) = eqb f.number n

-- The index of the slot that holds the flow with this number, counted from 0; where none does, that of no slot.
abbrev pub index_of : (number : ℕ) → List Slot → ℕ
index_of n slots = first_index (holds n) slots

-- That slot.
abbrev pub slot_with : (number : ℕ) → List Slot → Slot
slot_with n slots = get_or slots (index_of n slots) none

-- W-206: a flow with the rate and burst of a change; number, frame, deadline and path are kept.
unfoldable pub changed : Change → Flow → Flow
changed c f =
    record { number = f.number; rate = c.rate; burst = c.burst; frame = f.frame; deadline = f.deadline; path = f.path }

unfoldable pub changed_slot : Change → Slot → Slot
changed_slot c none = none
changed_slot c (some f) = some (changed c f)

-- The causes against a change, after 10 and 11, by the slot that holds its flow: 13 flow number not held; 17 against the held frame; then the links
-- of the held path, where the flow counts as changed beside the others.
unfoldable pub change_findings : State → Change → Slot → List (Option Cause)
change_findings s c none = whole 13 true ∷ []
change_findings s c (some f) =
    whole 17 (ltb c.burst f.frame)
    ∷ link_findings s.table (changed c f ∷ held_flows (set s.slots (index_of c.number s.slots) none)) f.path

-- The causes against an order: 10 or 11 of its line comes before all others. 13 flow number not held (release, change).
unfoldable pub findings : State → Order → List (Option Cause)
findings s (rejected code) = whole code true ∷ []
findings s (register f) = register_findings s f
findings s (release n) = whole 13 (eqb (with_number n (held_flows s.slots)) 0) ∷ []
findings s (change c) = change_findings s c (slot_with c.number s.slots)

-- What an answer line holds after the line number.
pub record Answer : Type 0 where
  pub code : ℕ
  pub slot : ℕ
  pub link : ℕ
  pub level : ℕ

pub record Outcome : Type 0 where
  pub answer : Answer
  pub next : State

-- A refusal answers its cause and slot 0; nothing changes.
unfoldable pub refuse : State → Cause → Outcome
refuse s c = record { answer = record { code = c.code; slot = 0; link = c.link; level = c.level }; next = s }

-- The slot at an index, counted from 0, gets new contents, and its number is answered.
unfoldable pub fill : State → (index : ℕ) → Slot → Outcome
fill s i contents =
    record {
      answer = record { code = 0; slot = suc i; link = 0; level = 0 };
      next = record { table = s.table; slots = set s.slots i contents };
    }

-- With no cause a registration puts its flow in the lowest free slot, a release empties the slot of the flow with its number, a change
-- leaves the flow in its slot with another rate and burst.
unfoldable pub perform : State → Order → Outcome
perform s (rejected code) = refuse s (record { code = code; link = 0; level = 0 })
perform s (register f) = fill s (first_index is_none s.slots) (some f)
perform s (release n) = fill s (index_of n s.slots) none
perform s (change c) = fill s (index_of c.number s.slots) (changed_slot c (slot_with c.number s.slots))

unfoldable pub decide : State → Order → Option Cause → Outcome
decide s o none = perform s o
decide s o (some c) = refuse s c

-- One order: its answer and the next state.
unfoldable pub apply : State → Order → Outcome
apply s o = decide s o (first_cause (findings s o))

-- Order after order: all answers, and the state left behind.
unfoldable pub order_answers : State → List Order → List Answer
order_answers s [] = []
order_answers s (o ∷ os) = (apply s o).answer ∷ order_answers (apply s o).next os

unfoldable pub after_orders : State → List Order → State
after_orders s [] = s
after_orders s (o ∷ os) = after_orders (apply s o).next os

-- A call: which call it is, and the bytes it is given.
pub record Call : Type 0 where
  pub kind : Kind
  pub bytes : List ℕ

-- A line of another kind gives 11, its rest unread.
unfoldable pub line_of_kind : (kind : ℕ) (line : List ℕ) → Option ℕ → Order
line_of_kind kind line none = rejected 10
line_of_kind kind line (some n) = cond (eqb n kind) (read_order line) (rejected 11)

-- A call takes one line with its LF; no line or several give 10.
unfoldable pub only_line : (kind : ℕ) → List Line → Order
only_line kind [] = rejected 10
only_line kind (unended ∷ []) = rejected 10
only_line kind (ended line ∷ []) = line_of_kind kind line (field_at 1 2 line)
only_line kind (first ∷ second ∷ more) = rejected 10

unfoldable pub call_order : Call → Order
call_order c = only_line (kind_number c.kind) (lines c.bytes)

unfoldable pub step : State → Call → Outcome
step s c = apply s (call_order c)

-- It begins with no flows.
unfoldable pub table_of : TableText → Table
table_of (accepted t) = t
table_of (refused code line) = []

unfoldable pub opened : (text : List ℕ) → State
opened text = record { table = table_of (read_table text); slots = replicate slot_count none }

-- Call after call.
unfoldable pub answers : State → List Call → List Answer
answers s calls = order_answers s (map call_order calls)

unfoldable pub final : State → List Call → State
final s calls = after_orders s (map call_order calls)
