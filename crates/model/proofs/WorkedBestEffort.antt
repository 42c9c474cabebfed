-- A worked run with best-effort frames over one link of 672 Mbit/s, on the state that a table text and a register call lead to: one is under way when a frame comes, another is offered while that frame waits.
-- It meets what the theorems ask: its threshold and buffer are the very bounds, and its source conforms. By computation. Assumes nothing.
use Rattle.std.specs.Prelude.{ℕ, zero, suc, ◌+◌, ◌≤◌, ◌≡◌, refl, cond, List, [], ◌∷◌, get_or, eqb}
use Prim.Native.String.{String}
use Rattle.std.proofs.Common.{ap, arith}
use mathlib.Core.List.Permᴰ
use Rattle.std.proofs.Math.Option.{some, none-ne-some, some-injective}
use Rattle.std.proofs.Math.ListN.{get_elem?}
use Rattle.model.specs.Words.{All, every, filter, first_index, is_none, nth}
use Rattle.model.specs.Total.{total, largest}
use Rattle.model.specs.Formula.{ceil_div, shortest_sending, hop_growth, burst_at_hop, residual, within_rate, delay_bound, backlog_bound, blocking, interference, level_residual, delay, backlog}
use Rattle.model.specs.Columns.{is_digit, digits, number, field, field_at, between, prepend, lines}
use Rattle.model.specs.QueueTable.{Queue, Table, is_row_length, later_field, row_fields, row, best_effort_in_range, row_in_range, continues, begins, row_in_turn, same_link, row_agrees, row_cause, queue_of, new_link, add_level, add_row, row_step, line_step, read_lines, read_table}
use Rattle.model.specs.Orders.{Hop, Flow, change_fields, head_fields, hop_field, hop_fields, path_fields, number_in_range, hops_in_range, head_in_range, flow_of, with_path, registration_of, registration, kind_number, kind_of_number, kind_order, order_of_kind, read_order}
use Rattle.model.specs.LinkCheck.{is_empty, level_code, or_else, levels_finding, rate_code, link_finding}
use Rattle.model.specs.Aggregates.{link_at, queue_at, threshold_of, speed_of, fixed_delay_of, best_effort_of, shares, all_shares, same_hop, adds_at, shares_at, aggregate_at, level_aggregates}
use Rattle.model.specs.Reference.{State, held_flows, held_hops, with_number, crosses, path_delay, first_cause, whole, start, end, no_queue, met_earlier, starts_elsewhere, number_finding, line_findings, deadline_finding, is_held, room_findings, link_cause, cause_at, link_findings, register_findings, findings, refuse, fill, perform, decide, apply, Call, line_of_kind, only_line, call_order, step, table_of, opened, after_orders, final}
use Rattle.model.specs.Reference as book
use Rattle.model.specs.Run as run
use Rattle.model.specs.Run.{Frame, Sends, Run, window, bytes_of, Conforming}
use Rattle.model.proofs.Laws.Test.{cond-le}
use Rattle.model.proofs.Laws.Run.Exists.{coming, goes_on, up_to, states, run_of}
use Rattle.model.specs.Punctual.{Punctual}
use Rattle.model.specs.Timely.{Timely}
use Rattle.model.specs.WorkedBatch.{bytes_from, bytes}
use Rattle.model.proofs.WorkedRun.{registers, at, flow, frame, one, in_all, promised}

-- One level, and best-effort frames of 84 bytes. One flow, which has a frame of 84 bytes as its burst.
pub text : String
text = "   1   1   2   672 1      3       85      0   84\n"

pub calls : List Call
calls = registers " 1     1     1000      84   84       3  1   1 1\n" ∷ []

abbrev pub state : State
state = final (opened (bytes text)) calls

abbrev pub flows : List Flow
flows = flow 1 84 3 (at 1 1 ∷ []) ∷ []

abbrev pub table : Table
table =
    record { from = 1; to = 2; speed = 672; fixed_delay = 0; best_effort = 84; levels = record { threshold = 3; buffer = 85 } ∷ [] } ∷ []

pub the-state : (state.table ≡ table) × (held_flows state.slots ≡ flows)
unfolding text calls registers bytes bytes_from is_digit digits number field field_at between prepend lines is_row_length later_field row_fields row best_effort_in_range row_in_range continues begins row_in_turn same_link row_agrees row_cause queue_of new_link add_level add_row row_step line_step read_lines read_table change_fields head_fields hop_field hop_fields path_fields number_in_range hops_in_range head_in_range flow_of with_path registration_of registration kind_number kind_of_number kind_order order_of_kind read_order total largest ceil_div shortest_sending hop_growth burst_at_hop residual within_rate delay_bound backlog_bound blocking interference level_residual delay backlog is_empty level_code or_else levels_finding rate_code link_finding nth link_at queue_at threshold_of speed_of fixed_delay_of shares all_shares same_hop adds_at shares_at aggregate_at level_aggregates held_flows held_hops with_number crosses path_delay first_cause whole book.at_hop is_none start end no_queue met_earlier starts_elsewhere number_finding line_findings deadline_finding every is_held room_findings link_cause cause_at link_findings register_findings findings first_index refuse fill perform decide apply line_of_kind only_line call_order step table_of opened final after_orders
the-state = (refl, refl)

-- With two slots a bit there are 1344 from instant to instant, as many as 84 bytes take. A best-effort frame is offered in the last one before
-- instants 1, 2 and 3: half a bit before the flow's frame comes, just when the link is free and that frame waits, and just when that frame has left; the
-- last one has a byte.
abbrev pub offered : (x link slot : ℕ) → ℕ
offered x n slot = get_or (0 ∷ cond (eqb slot 1343) (get_or (84 ∷ 84 ∷ 1 ∷ []) x 0) 0 ∷ []) n 0

pub offers : (x n slot : ℕ) → offered x n slot ≤ best_effort_of (link_at table n)
unfolding best_effort_of link_at nth
offers x zero slot = omega arith
offers zero (suc zero) slot = cond-le (eqb slot 1343) 84
offers (suc zero) (suc zero) slot = cond-le (eqb slot 1343) 84
offers (suc (suc zero)) (suc zero) slot = omega (arith, cond-le (eqb slot 1343) 1)
offers (suc (suc (suc x))) (suc zero) slot = omega (arith, cond-le (eqb slot 1343) 0)
offers x (suc (suc n)) slot = omega arith

abbrev pub sent : ℕ → List Frame
sent x = get_or ([] ∷ (frame 0 1 ∷ []) ∷ []) x []

pub sends : (x : ℕ) → All (Sends flows x) (sent x)
sends zero = tt
sends (suc zero) = (one flows _ 0 1 refl (omega arith), tt)
sends (suc (suc x)) = tt

abbrev pub worked : Run table flows
worked = run_of table flows 2 offered sent (λ x q l. l) (omega arith) offers sends (λ x q l. Permᴰ.refl l)

-- The same without best effort.
abbrev pub alone : Run table flows
alone = run_of table flows 2 (λ x n slot. 0) sent (λ x q l. l) (omega arith) (λ x n slot. omega arith) sends (λ x q l. Permᴰ.refl l)

-- Before the arrivals of instant 1 one slot of the best-effort frame is sent. It is in no queue when the flow's frame comes, which then begins in mid-bit too;
-- the second best-effort frame isn't sent. The flow's frame has left when instant 3 comes, and the third best-effort frame is under way. Without best effort
-- the flow's frame has left at 2.
pub the-run : (worked.before 1 1 ≡ record { wire = run.sending_best_effort 1342; levels = [] ∷ []; left = [] })
    × (run.in_queue 1 (worked.after 1 1) ≡ frame 0 1 ∷ [])
    × (worked.before 2 1 ≡ record { wire = run.sending 1 (frame 0 1) 1342; levels = [] ∷ []; left = [] })
    × (worked.before 3 1 ≡ record { wire = run.sending_best_effort 14; levels = [] ∷ []; left = frame 0 1 ∷ [] })
    × (alone.before 2 1 ≡ record { wire = run.idle; levels = [] ∷ []; left = frame 0 1 ∷ [] })
unfolding run.on_wire run.in_queue run_of states goes_on up_to coming run.past_empty run.pick run.sending_time run.start_best_effort run.start run.take run.send run.time_slot run.interval run.hop_of run.next run.left_ago run.handed_on run.moving run.reaching run.append run.enter run.empty_levels run.empty_link speed_of filter nth link_at fixed_delay_of same_hop
the-run = (refl, refl, refl, refl, refl)

pub conforming : Conforming flows sent
unfolding window bytes_of total
conforming = in_all flows sent 2 later bursts
  where
    later : (j x : ℕ) → 0 + 2 ≤ x → bytes_of j (sent x) ≡ 0
    later j zero u = absurd (omega arith)
    later j (suc zero) u = absurd (omega arith)
    later j (suc (suc x)) u = refl

    bursts : (j : ℕ) (f : Flow) → get_elem? flows j ≡ some f → window (λ x. bytes_of j (sent x)) 0 2 ≤ f.burst
    bursts zero f e = omega (arith, ap (λ z. z.burst) (some-injective _ f e))
    bursts (suc j) f e = absurd (none-ne-some f e)

-- So the theorems speak of this run.
pub timely : Timely table flows
timely = promised text calls table flows the-state.0 the-state.1

pub on-time : (x : ℕ) (h : Hop) (q : Queue) → queue_at table h ≡ some q → Punctual table flows worked x h q
unfolding run_of
on-time = timely.punctual worked conforming
