-- A worked run over two links of 448 Mbit/s with cables, on the state that a table text and three register calls lead to: a frame goes on over a cable and waits behind another flow's at its second hop.
-- It meets what the theorems ask: its thresholds, buffers and deadlines are the very bounds, and its sources conform. By computation. Assumes nothing.
use Rattle.std.specs.Prelude.{ℕ, zero, suc, ◌+◌, ◌*◌, ◌≤◌, ◌≡◌, refl, List, [], ◌∷◌, ◌++◌, map, get_or}
use Prim.Native.String.{String}
use Rattle.std.proofs.Common.{ap, subst, arith, zero-add}
use mathlib.Core.List.Permᴰ
use Rattle.std.proofs.Math.Option.{some, none-ne-some, some-injective}
use Rattle.std.proofs.Math.ListN.{get_elem?}
use Rattle.model.specs.Words.{All, every, filter, first_index, is_none, nth}
use Rattle.model.specs.Total.{total, largest}
use Rattle.model.specs.Formula.{ceil_div, shortest_sending, hop_growth, burst_at_hop, residual, within_rate, delay_bound, backlog_bound, blocking, interference, level_residual, delay, backlog}
use Rattle.model.specs.Columns.{is_digit, digits, number, field, field_at, between, prepend, lines}
use Rattle.model.specs.QueueTable.{Queue, Table, is_row_length, later_field, row_fields, row, best_effort_in_range, row_in_range, continues, begins, row_in_turn, same_link, row_agrees, row_cause, queue_of, new_link, add_level, add_row, row_step, line_step, read_lines, read_table}
use Rattle.model.specs.Orders.{Hop, Flow, registering, changing, change_in_range, change_of, change_line, change_fields, head_fields, hop_field, hop_fields, path_fields, number_in_range, hops_in_range, head_in_range, flow_of, with_path, registration_of, registration, kind_number, kind_of_number, kind_order, order_of_kind, read_order}
use Rattle.model.specs.LinkCheck.{is_empty, level_code, or_else, levels_finding, rate_code, link_finding}
use Rattle.model.specs.Aggregates.{link_at, queue_at, threshold_of, speed_of, fixed_delay_of, shares, all_shares, same_hop, adds_at, shares_at, aggregate_at, level_aggregates}
use Rattle.model.specs.Reference.{State, held_flows, held_hops, with_number, crosses, path_delay, first_cause, whole, start, end, no_queue, met_earlier, starts_elsewhere, number_finding, line_findings, deadline_finding, is_held, room_findings, link_cause, cause_at, link_findings, register_findings, holds, changed, changed_slot, change_findings, findings, refuse, fill, perform, decide, apply, Call, line_of_kind, only_line, call_order, step, table_of, opened, after_orders, final}
use Rattle.model.specs.Reference as book
use Rattle.model.specs.Run as run
use Rattle.model.specs.Run.{Frame, Sends, Run, window, bytes_of, Conforming}
use Rattle.model.proofs.Laws.All.{all-imp}
use Rattle.model.proofs.Laws.Run.Windows.{window-join, window-within}
use Rattle.model.proofs.Laws.Run.Exists.{coming, goes_on, up_to, states, run_of}
use Rattle.model.specs.Punctual.{Punctual}
use Rattle.model.specs.Delivery.{delivered, any_birth, of_flow, at_hop, left_since, on_cable, frames_at, along_path}
use Rattle.model.specs.Timely.{Timely}
use Rattle.model.specs.WorkedBatch.{bytes_from, bytes}
use Rattle.model.proofs.Results.{reached-timely}

-- Link 1 has two levels and a fixed delay of 2 µs, link 2 goes on from where it ends, with one of 1 µs.
pub text : String
text =
    "   1   1   2   448 1      6      169      2\n   1   1   2   448 2     10      253      2\n   2   2   3   448 1      7      254      1\n"

unfoldable pub registers : String → Call
registers line = record { kind = registering; bytes = bytes line }

unfoldable pub changes : String → Call
changes line = record { kind = changing; bytes = bytes line }

-- Flow 1 over both links, flow 2 on the lower level of link 1, flow 3 on link 2. Their deadlines are what thresholds and fixed delays sum to. Flow 2 gets its
-- burst by a change.
pub calls : List Call
calls =
    registers " 1     1     1000     168   84      16  2   1 1   2 1\n"
    ∷ registers " 1     2     2000      84   84      12  1   1 2\n"
    ∷ registers " 1     3     1000      84   84       8  1   2 1\n"
    ∷ changes " 3     2     1000     252\n"
    ∷ []

abbrev pub state : State
state = final (opened (bytes text)) calls

abbrev pub at : (link level : ℕ) → Hop
at link level = record { link = link; level = level }

abbrev pub flow : (number burst deadline : ℕ) → List Hop → Flow
flow number burst deadline path =
    record { number = number; rate = 1000; burst = burst; frame = 84; deadline = deadline; path = path }

abbrev pub flows : List Flow
flows = flow 1 168 16 (at 1 1 ∷ at 2 1 ∷ []) ∷ flow 2 252 12 (at 1 2 ∷ []) ∷ flow 3 84 8 (at 2 1 ∷ []) ∷ []

abbrev pub table : Table
table =
    record {
      from = 1;
      to = 2;
      speed = 448;
      fixed_delay = 2;
      best_effort = 0;
      levels = record { threshold = 6; buffer = 169 } ∷ record { threshold = 10; buffer = 253 } ∷ [];
    }
    ∷ record { from = 2; to = 3; speed = 448; fixed_delay = 1; best_effort = 0; levels = record { threshold = 7; buffer = 254 } ∷ [] }
    ∷ []

-- The calls admit these flows on this table.
pub the-state : (state.table ≡ table) × (held_flows state.slots ≡ flows)
unfolding text calls registers changes bytes bytes_from is_digit digits number field field_at between prepend lines is_row_length later_field row_fields row best_effort_in_range row_in_range continues begins row_in_turn same_link row_agrees row_cause queue_of new_link add_level add_row row_step line_step read_lines read_table change_fields head_fields hop_field hop_fields path_fields number_in_range hops_in_range head_in_range flow_of with_path registration_of registration change_in_range change_of change_line kind_number kind_of_number kind_order order_of_kind read_order total largest ceil_div shortest_sending hop_growth burst_at_hop residual within_rate delay_bound backlog_bound blocking interference level_residual delay backlog is_empty level_code or_else levels_finding rate_code link_finding nth link_at queue_at threshold_of speed_of fixed_delay_of shares all_shares same_hop adds_at shares_at aggregate_at level_aggregates held_flows held_hops with_number crosses path_delay first_cause whole book.at_hop is_none start end no_queue met_earlier starts_elsewhere number_finding line_findings deadline_finding every is_held room_findings link_cause cause_at link_findings register_findings changed changed_slot change_findings findings holds first_index refuse fill perform decide apply line_of_kind only_line call_order step table_of opened final after_orders
the-state = (refl, refl)

-- What is promised of the flows and the table that calls lead to.
pub promised : (text : String) (calls : List Call) (table : Table) (flows : List Flow) → (final (opened (bytes text)) calls).table ≡ table
    → held_flows (final (opened (bytes text)) calls).slots ≡ flows → Timely table flows
promised text calls table flows e d =
    let s : State = final (opened (bytes text)) calls in
    subst (λ t. Timely t flows) e (subst (Timely s.table) d (reached-timely (bytes text) calls))

-- A frame of the flow with index `j` that its source adds at instant `x`. It takes a link 1.5 µs.
abbrev pub frame : (j x : ℕ) → Frame
frame j x = record { flow = j; hop = 0; length = 84; since = x; born = x }

pub one : (fs : List Flow) (f : Flow) (j x : ℕ) → get_elem? fs j ≡ some f → 84 ≤ f.frame → Sends fs x (frame j x)
one fs f j x e u = record { flow = f; known = e; first = refl; least = omega arith; most = u; since = refl; born = refl }

-- At instant 1 a frame of level 2 is under way when one of level 1 comes; at instant 3 the link is free just when another comes.
abbrev pub sent : ℕ → List Frame
sent x =
    get_or ((frame 1 0 ∷ []) ∷ (frame 1 1 ∷ frame 0 1 ∷ []) ∷ (frame 1 2 ∷ []) ∷ (frame 0 3 ∷ []) ∷ (frame 2 4 ∷ []) ∷ []) x []

pub sends : (x : ℕ) → All (Sends flows x) (sent x)
sends zero = (one flows _ 1 0 refl (omega arith), tt)
sends (suc zero) = (one flows _ 1 1 refl (omega arith), (one flows _ 0 1 refl (omega arith), tt))
sends (suc (suc zero)) = (one flows _ 1 2 refl (omega arith), tt)
sends (suc (suc (suc zero))) = (one flows _ 0 3 refl (omega arith), tt)
sends (suc (suc (suc (suc zero)))) = (one flows _ 2 4 refl (omega arith), tt)
sends (suc (suc (suc (suc (suc x))))) = tt

-- The grain is 1, and nothing is offered.
abbrev pub worked : Run table flows
worked = run_of table flows 1 (λ x n slot. 0) sent (λ x q l. l) (omega arith) (λ x n slot. omega arith) sends (λ x q l. Permᴰ.refl l)

-- A stay in a queue: on which link, of which flow, from when to when.
pub record Stay : Type 0 where
  pub link : ℕ
  pub flow : ℕ
  pub came : ℕ
  pub gone : ℕ

-- The stays that have ended when instant `x` comes, link by link, in the order in which they ended.
unfoldable pub stays : (link x : ℕ) → List Stay
stays n zero = []
stays n (suc x) = stays n x ++ map (λ f. record { link = n; flow = f.flow; came = f.since; gone = suc x }) (worked.before (suc x) n).left

-- Before the arrivals of instant 1, 448 of the 672 bits are sent. Frames of one level leave in the order in which they came.
-- The frame of flow 1 that left link 1 at instant 3 is on the cable at instant 4, and in no queue of its path; at 5 it reaches link 2. It leaves that
-- link at 7, and at 8, behind the second cable, it has ended its path, 7 µs after it was sent.
pub the-run : (worked.before 1 1 ≡ record { wire = run.sending 2 (frame 1 0) 223; levels = [] ∷ [] ∷ []; left = [] })
    × (stays 1 6 ++ stays 2 7
    ≡ record { link = 1; flow = 1; came = 0; gone = 2 }
    ∷ record { link = 1; flow = 0; came = 1; gone = 3 }
    ∷ record { link = 1; flow = 0; came = 3; gone = 5 }
    ∷ record { link = 1; flow = 1; came = 1; gone = 6 }
    ∷ record { link = 2; flow = 2; came = 4; gone = 6 }
    ∷ record { link = 2; flow = 0; came = 5; gone = 7 }
    ∷ [])
    × (on_cable worked 4 1 ≡ frame 0 1 ∷ [])
    × (run.in_queue 1 (worked.after 4 1) ++ run.in_queue 1 (worked.after 4 2) ≡ frame 0 3 ∷ frame 2 4 ∷ [])
    × (along_path worked any_birth 0 4 0 (at 1 1 ∷ at 2 1 ∷ []) ≡ 168)
    × (delivered worked 8
    ≡ record { flow = 1; hop = 1; length = 84; since = 8; born = 1 }
    ∷ record { flow = 0; hop = 2; length = 84; since = 8; born = 1 }
    ∷ [])
unfolding stays delivered of_flow at_hop left_since on_cable frames_at along_path total run.on_wire run.in_queue run_of states goes_on up_to coming run.past_empty run.pick run.sending_time run.start_best_effort run.start run.take run.send run.time_slot run.interval run.hop_of run.next run.left_ago run.handed_on run.moving run.reaching run.append run.enter run.empty_levels run.empty_link speed_of filter is_none nth link_at fixed_delay_of same_hop
the-run = (refl, refl, refl, refl, refl, refl)

-- Sources that add nothing from instant `last` on, and each no more than its burst in all, conform.
pub in_all : (fs : List Flow) (sent : ℕ → List Frame) (last : ℕ) → ((j x : ℕ) → 0 + last ≤ x → bytes_of j (sent x) ≡ 0)
    → ((j : ℕ) (f : Flow) → get_elem? fs j ≡ some f → window (λ x. bytes_of j (sent x)) 0 last ≤ f.burst) → Conforming fs sent
in_all fs sent last later bursts = record { bound = bound }
  where
    bound : (j : ℕ) (f : Flow) → get_elem? fs j ≡ some f → (s n : ℕ) → 8000 * window (λ x. bytes_of j (sent x)) s (suc n) ≤ 8000 * f.burst + f.rate * n
    bound j f e s n =
        let g : ℕ → ℕ = λ x. bytes_of j (sent x) in
        omega (arith, bursts j f e, window-join g 0 s (suc n), window-within g 0 last (s + suc n) (later j), ap (λ z. window g z (suc n)) (zero-add s))

none-later : (j x : ℕ) → 0 + 5 ≤ x → bytes_of j (sent x) ≡ 0
unfolding bytes_of total
none-later j zero u = absurd (omega arith)
none-later j (suc zero) u = absurd (omega arith)
none-later j (suc (suc zero)) u = absurd (omega arith)
none-later j (suc (suc (suc zero))) u = absurd (omega arith)
none-later j (suc (suc (suc (suc zero)))) u = absurd (omega arith)
none-later j (suc (suc (suc (suc (suc x))))) u = refl

pub conforming : Conforming flows sent
unfolding window bytes_of total
conforming = in_all flows sent 5 none-later bursts
  where
    bursts : (j : ℕ) (f : Flow) → get_elem? flows j ≡ some f → window (λ x. bytes_of j (sent x)) 0 5 ≤ f.burst
    bursts zero f e = omega (arith, ap (λ z. z.burst) (some-injective _ f e))
    bursts (suc zero) f e = omega (arith, ap (λ z. z.burst) (some-injective _ f e))
    bursts (suc (suc zero)) f e = omega (arith, ap (λ z. z.burst) (some-injective _ f e))
    bursts (suc (suc (suc j))) f e = absurd (none-ne-some f e)

-- So the theorems speak of this run.
pub timely : Timely table flows
timely = promised text calls table flows the-state.0 the-state.1

sums : (j : ℕ) (f : Flow) → get_elem? flows j ≡ some f → path_delay table f.path ≤ 16
unfolding path_delay total link_at queue_at threshold_of fixed_delay_of nth
sums zero f e = subst (λ z. path_delay table z.path ≤ 16) (some-injective _ f e) (omega arith)
sums (suc zero) f e = subst (λ z. path_delay table z.path ≤ 16) (some-injective _ f e) (omega arith)
sums (suc (suc zero)) f e = subst (λ z. path_delay table z.path ≤ 16) (some-injective _ f e) (omega arith)
sums (suc (suc (suc j))) f e = absurd (none-ne-some f e)

-- Who is delivered was sent at most the greatest of the sums ago.
pub end_to_end : (x : ℕ) → All (λ f. x ≤ f.born + 16) (delivered worked x)
unfolding run_of
end_to_end x =
    all-imp (delivered worked x) (λ f i. omega (arith, i.path, sums f.flow i.flow i.known)) (timely.in_time worked conforming x)

pub on-time : (x : ℕ) (h : Hop) (q : Queue) → queue_at table h ≡ some q → Punctual table flows worked x h q
unfolding run_of
on-time = timely.punctual worked conforming
