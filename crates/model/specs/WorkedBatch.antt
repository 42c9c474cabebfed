-- Document 01, "Whole batch", worked out from the definitions; batches that show what counts as a line, which refusal comes first, and how bursts grow; what the order of registrations decides; a handover text;
-- lines of another kind in direct calls; and links that 42 judges.
-- By computation. Assumes nothing.
use Rattle.std.specs.Prelude.{ℕ, zero, suc, ◌≡◌, refl, true, false}
use Prim.Native.Char.{code}
use Prim.Native.String.{String, len, char_at}
use mathlib.Core.List.{List, [], ◌∷◌, map, flatten}
use Rattle.model.specs.Words.{every, first_index, is_none, nth, joined}
use Rattle.model.specs.Columns.{is_digit, digits, number, field, field_at, padded, justified, between, prepend, Line, lines}
use Rattle.model.specs.QueueTable.{is_row_length, later_field, row_fields, row, best_effort_in_range, row_in_range, continues, begins, row_in_turn, same_link, row_agrees, row_cause, queue_of, new_link, add_level, add_row, row_step, line_step, read_lines, read_table}
use Rattle.model.specs.Orders.{Flow, Order, rejected, registering, releasing, changing, head_fields, hop_field, hop_fields, path_fields, number_in_range, hops_in_range, head_in_range, flow_of, with_path, registration_of, registration, release_of, release_line, change_fields, change_in_range, change_of, change_line, kind_number, kind_of_number, kind_order, order_of_kind, read_order, order_line}
use Rattle.model.specs.Total.{total, largest}
use Rattle.model.specs.Formula.{ceil_div, shortest_sending, hop_growth, burst_at_hop, residual, within_rate, delay_bound, backlog_bound, blocking, interference, level_residual, delay, backlog}
use Rattle.model.specs.LinkCheck.{is_empty, level_code, or_else, levels_finding, rate_code, link_finding}
use Rattle.model.specs.Aggregates.{link_at, queue_at, threshold_of, speed_of, fixed_delay_of, shares, all_shares, same_hop, adds_at, shares_at, aggregate_at, level_aggregates}
use Rattle.model.specs.Reference.{held_flows, held_hops, with_number, crosses, path_delay, first_cause, whole, at_hop, start, end, no_queue, met_earlier, starts_elsewhere, number_finding, line_findings, deadline_finding, is_held, room_findings, link_cause, cause_at, link_findings, register_findings, changed, changed_slot, change_findings, findings, holds, refuse, fill, perform, decide, apply, order_answers, after_orders, line_of_kind, only_line, call_order, table_of, opened}
use Rattle.model.specs.Consistent.{row_of, link_consistent, head_of, flow_in_range, flow_consistent, flows_consistent}
use Rattle.model.specs.AnyOrder.{AdmittedWhole}
use Rattle.model.specs.Handover.{head_text, hop_text, flow_columns, flow_line, handover_text, refused_writing, done_writing, writing}
use Rattle.model.specs.Outcomes.{early_findings}
use Rattle.model.specs.WholeThresholds as before
use Rattle.model.specs.Answers.{answer_columns, answer_line}
use Rattle.model.specs.Batch.{Batch, line_answers, answer_text, refused_batch, done_batch, too_long, too_short, after_table, batch}

-- The bytes of a text in ASCII.
unfoldable pub bytes_from : (place count : ℕ) → String → List ℕ
bytes_from place zero text = []
bytes_from place (suc n) text = code (char_at text place) ∷ bytes_from (suc place) n text

unfoldable pub bytes : String → List ℕ
bytes text = bytes_from 0 (len text) text

-- What is worked out, and what document 01 gives for it.
pub record Worked : Type 0 where
  pub worked : Batch
  pub given : Batch

worked : (table orders area : String) (code line : ℕ) (area' : String) → Worked
worked table orders area code line area' =
    record { worked = batch (bytes table) (bytes orders) (bytes area); given = record { code = code; line = line; area = bytes area' } }

pub growth_table : String
growth_table =
    "   1   1   2    10 1    500     2000\n   1   1   2    10 2   1000     2000\n   2   2   3   100 1     91     1040\n   3   2   4   100 1     90     1040\n   4   2   5   100 1     91     1039\n   5   2   6   100 1     96     1108\n"

pub growth_orders : String
growth_orders =
    " 1     1     8000     100  100    2000  2   1 2   5 1\n 2     1\n 1     1     8000     100  100    2000  2   1 2   3 1\n 1     1     8000     100  100    2000  2   1 2   4 1\n 1     1     8000     100  100    2000  2   1 2   2 1\n"

-- The flow of these orders, with its last link, beside another flow.
pub growth_flows : (last : ℕ) → List Flow
growth_flows last =
    record {
      number = 1;
      rate = 8000;
      burst = 100;
      frame = 100;
      deadline = 2000;
      path = record { link = 1; level = 2 } ∷ record { link = last; level = 1 } ∷ [];
    }
    ∷ record { number = 2; rate = 1; burst = 84; frame = 84; deadline = 2000; path = record { link = 3; level = 1 } ∷ [] }
    ∷ []

-- The example hall's table, and order lines of it: the reject gate's command and the pictures for the packer.
pub hall_table : String
hall_table =
    "   1   1   2   100 1    250     4000\n   1   1   2   100 2   1000    16000\n   2   2   3   100 1    250     4000\n   2   2   3   100 2   1500    24000\n   2   2   3   100 3   4000    40000\n   3   3   4   100 1    250     4000\n   3   3   4   100 2   1800    30000\n   3   3   4   100 3   4000    40000\n   4   4   5   100 1    120     2000\n   4   4   5   100 2   1000    16000\n   5   4   6  1000 1    100     8000    120 1542\n   5   4   6  1000 2    300    40000    120 1542\n   5   4   6  1000 3   2000   120000    120 1542\n   6   6   4  1000 1    100     8000    120 1542\n   6   6   4  1000 2    500    40000    120 1542\n   7   6   7  1000 1    500    60000\n   7   6   7  1000 2   2000   120000\n   8   5   6    10 1   3000     2000\n   8   5   6    10 2   8000     6000\n"

pub gate : String
gate = " 1   301      500     168   84     500  2   6 1   4 1\n"

pub pictures : String
pictures = " 1   302     2000    6000 1542    2000  1   4 2\n"

-- The filler's drive and camera: four hops each, at levels 1 and 2.
pub four_hops : List String
four_hops =
    " 1   101      800     200  200    1000  4   1 1   2 1   3 1   5 1\n"
    ∷ " 1   201    20000    6168 1542    5000  4   1 2   2 2   3 2   5 2\n"
    ∷ []

-- Their flows.
pub four_hop_flows : List Flow
four_hop_flows =
    record {
      number = 101;
      rate = 800;
      burst = 200;
      frame = 200;
      deadline = 1000;
      path = map (λ n. record { link = n; level = 1 }) (1 ∷ 2 ∷ 3 ∷ 5 ∷ []);
    }
    ∷ record {
      number = 201;
      rate = 20000;
      burst = 6168;
      frame = 1542;
      deadline = 5000;
      path = map (λ n. record { link = n; level = 2 }) (1 ∷ 2 ∷ 3 ∷ 5 ∷ []);
    }
    ∷ []

-- A link of 100 Mbit/s; a film of 80 Mbit/s and two cameras of 20.
pub film_table : String
film_table = "   1   1   2   100 1   1000    16000\n"

pub film : String
film = " 1     1    80000    1542 1542    1000  1   1 1\n"

pub camera : String
camera = " 1     2    20000    1542 1542    1000  1   1 1\n"

pub second_camera : String
second_camera = " 1     3    20000    1542 1542    1000  1   1 1\n"

-- The lines of texts, one after the other.
unfoldable pub lines_of : List String → List Line
lines_of texts = flatten (map (λ text. lines (bytes text)) texts)

-- The codes of order lines, one after the other from an empty registry, and the numbers of the flows held then, lowest slot first.
pub record Sorted : Type 0 where
  pub codes : List ℕ
  pub held : List ℕ

unfoldable pub sorted : (table : String) (texts : List String) → Sorted
sorted table texts =
    let orders : List Order = map order_line (lines_of texts) in
    record {
      codes = map (λ a. a.code) (order_answers (opened (bytes table)) orders);
      held = map (λ f. f.number) (held_flows (after_orders (opened (bytes table)) orders).slots);
    }

pub worked_batches : List Worked
worked_batches =
    -- the whole batch, in an area four bytes longer than it needs
    worked
    "   1   1   2   100 1    370     2000\n   1   1   2   100 2    374     2000\n"
    " 1     7     1000    1542 1542     370  1   1 1\n 1     8     1000    1542 1542     374  1   1 2\n 2     7\n 1     8     1000    1542 1542     374  1   1 2\n"
    "...................................................................................."
    0
    4
    "     1  0   1   0 0\n     2 22   0   1 1\n     3  0   1   0 0\n     4  0   1   0 0\n...."
    -- bytes after the last LF are a line
    ∷ worked "" "?" "...................." 0 1 "     1 10   0   0 0\n"
    -- an area too short by a byte
    ∷ worked "" "?" "..................." 40 0 "..................."
    -- the table's refusal comes before 40
    ∷ worked "?" "?" "" 1 1 ""
    -- two hops: admitted just within its deadline; past it (20); a link that starts elsewhere (15); a link met earlier (16);
    -- a flow of one hop that the first one's burst, grown by one byte at the second link, makes too late there (22);
    -- one whose rate and the first one's are the link's speed (21, which names the second link); a release of a flow that isn't held (13)
    ∷ worked
    "   1   1   2   448 1      6      169\n   2   2   3   448 1      6      254\n"
    " 1     1     1000     168   84      12  2   1 1   2 1\n 1     2     1000      84   84      11  2   1 1   2 1\n 1     3     1000      84   84      12  2   2 1   1 1\n 1     4     1000      84   84      12  2   1 1   1 1\n 1     5     1000      84   84       6  1   2 1\n 1     6   447000      84   84       6  1   2 1\n 2     9\n"
    "............................................................................................................................................"
    0
    7
    "     1  0   1   0 0\n     2 20   0   0 0\n     3 15   0   1 1\n     4 16   0   1 1\n     5 22   0   2 1\n     6 21   0   2 0\n     7 13   0   0 0\n"
    -- the same two links, the second with a fixed delay of 2 µs: one µs past the deadline (20), and just within it
    ∷ worked
    "   1   1   2   448 1      6      169\n   2   2   3   448 1      6      254      2\n"
    " 1     1     1000     168   84      13  2   1 1   2 1\n 1     1     1000     168   84      14  2   1 1   2 1\n"
    "........................................"
    0
    2
    "     1 20   0   0 0\n     2  0   1   0 0\n"
    -- lines of one link may differ in length, not in their fixed delay (4)
    ∷ worked "   1   1   2   448 1      6      169\n   1   1   2   448 2      6      169      0\n" "" "" 0 0 ""
    ∷ worked "   1   1   2   448 1      6      169\n   1   1   2   448 2      6      169      1\n" "" "" 4 2 ""
    -- a fixed delay of 10,000 is in range, one more isn't (2), and its field begins in column 37
    ∷ worked "   1   1   2   448 1      6      169  10000\n" "" "" 0 0 ""
    ∷ worked "   1   1   2   448 1      6      169  10001\n" "" "" 2 1 ""
    ∷ worked "   1   1   2   448 1      6      1691000000\n" "" "" 2 1 ""
    -- 42 and 44 columns (1)
    ∷ worked "   1   1   2   448 1      6      169     0\n" "" "" 1 1 ""
    ∷ worked "   1   1   2   448 1      6      169      0 \n" "" "" 1 1 ""
    -- a best-effort frame of 84: it blocks where a frame of 84 below does, both together no longer (a sum would give 22 for the second order), and at the last
    -- level of a link of two lines too, where one µs less is too little (22)
    ∷ worked
    "   1   1   2   672 1      3       85      0   84\n   1   1   2   672 2      5       85      0   84\n   2   2   3   672 1      2       85      0   84\n   2   2   3   672 2      2       85      0   84\n"
    " 1     1     1000      84   84       3  1   1 1\n 1     2     1000      84   84       5  1   1 2\n 1     3     1000      84   84       2  1   2 2\n"
    "............................................................"
    0
    3
    "     1  0   1   0 0\n     2  0   2   0 0\n     3 22   0   2 2\n"
    -- lines of one link may differ in length, not in their best-effort frame (4)
    ∷ worked "   1   1   2   448 1      6      169\n   1   1   2   448 2      6      169      0    0\n" "" "" 0 0 ""
    ∷ worked "   1   1   2   448 1      6      169      0\n   1   1   2   448 2      6      169      0   84\n" "" "" 4 2 ""
    ∷ worked "   1   1   2   448 1      6      169      0   84\n   1   1   2   448 2      6      169\n" "" "" 4 2 ""
    -- none, and 84 to 1,542 are in range, 1, 83 and 1,543 aren't (2), and its field begins in column 44
    ∷ worked "   1   1   2   448 1      6      169      0 1542\n" "" "" 0 0 ""
    ∷ worked "   1   1   2   448 1      6      169      0    1\n" "" "" 2 1 ""
    ∷ worked "   1   1   2   448 1      6      169      0   83\n" "" "" 2 1 ""
    ∷ worked "   1   1   2   448 1      6      169      0 1543\n" "" "" 2 1 ""
    ∷ worked "   1   1   2   448 1      6      169      010084\n" "" "" 2 1 ""
    -- 45, 47 and 49 columns (1)
    ∷ worked "   1   1   2   448 1      6      169      0 0\n" "" "" 1 1 ""
    ∷ worked "   1   1   2   448 1      6      169      0   0\n" "" "" 1 1 ""
    ∷ worked "   1   1   2   448 1      6      169      0    0 \n" "" "" 1 1 ""
    -- a burst that has grown at a hop of 10 Mbit/s, on level 2, by its threshold of 1,000 less 68: admitted where threshold and buffer of the hop behind are just as large as
    -- the bounds, and not with one less (22, 23); by whole thresholds the last order was refused too
    ∷ worked growth_table growth_orders "...................................................................................................." 0 5
    "     1  0   1   0 0\n     2  0   1   0 0\n     3 22   0   3 1\n     4 23   0   4 1\n     5  0   1   0 0\n"
    -- W-206: a flow in slot 2 is changed there, though slot 1 is free; a greater rate alone lets its burst grow by three at the second link, whose buffer then is one too small
    -- (23); a burst below its largest frame, before the link's speed (17, 21); a flow that isn't held (13); one with a burst of 83, and the number 65,536 (11); nine columns
    -- of rate (11); a column more, and a rate of 0 (10); another kind (11); the flow is held still, and once released isn't (13)
    ∷ worked
    "   1   1   2   448 1      6      300\n   2   2   3   448 1      6      172\n   3   3   1   448 1      6      169\n"
    " 1     7     1000     168   84       6  1   3 1\n 1     1     1000     168  100      12  2   1 1   2 1\n 2     7\n 3     1     4000     168\n 3     1     5000     168\n 3     1   448000      99\n 3     1   448000     168\n 3     2     4000      99\n 3     2     4000      83\n 3 65536     4000     168\n 3     1101000000     168\n 3     1        0     168 \n 4     1     4000     168\n 2     1\n 3     1     4000     168\n"
    "............................................................................................................................................................................................................................................................................................................"
    0
    15
    "     1  0   1   0 0\n     2  0   2   0 0\n     3  0   1   0 0\n     4  0   2   0 0\n     5 23   0   2 1\n     6 17   0   0 0\n     7 21   0   1 0\n     8 13   0   0 0\n     9 11   0   0 0\n    10 11   0   0 0\n    11 11   0   0 0\n    12 10   0   0 0\n    13 11   0   0 0\n    14  0   2   0 0\n    15 13   0   0 0\n"
    ∷ []

-- The second and third part, by whole thresholds, before W-208: the codes of the last batch, and whether its flow, ending on link 5 or 2, is consistent beside another.
-- The fourth, W-205: where not all are admitted the order decides who is held, 301 or 302, and how many, a film or two cameras; where all are, it decides their slots.
-- The fifth: flows that are admitted whole, so that `any-order-lines` speaks of something.
-- The sixth to eighth, W-204: those flows are consistent, so that `handover` speaks of something; its text is the lines that they were read from; and a text
-- of two bytes is written in areas that are too short, just long enough and longer.
pub worked-batches : (map (λ w. w.worked) worked_batches ≡ map (λ w. w.given) worked_batches)
    × (map (λ a. a.code) (before.line_answers (opened (bytes growth_table)) (lines (bytes growth_orders))) ≡ 0 ∷ 0 ∷ 22 ∷ 22 ∷ 22 ∷ [])
    × (map (λ n. before.flows_consistent (opened (bytes growth_table)).table (growth_flows n)) (5 ∷ 2 ∷ []) ≡ true ∷ false ∷ [])
    × (
    sorted hall_table (gate ∷ pictures ∷ [])
    ∷ sorted hall_table (pictures ∷ gate ∷ [])
    ∷ sorted film_table (film ∷ camera ∷ second_camera ∷ [])
    ∷ sorted film_table (camera ∷ second_camera ∷ film ∷ [])
    ∷ sorted film_table (camera ∷ second_camera ∷ [])
    ∷ sorted film_table (second_camera ∷ camera ∷ [])
    ∷ []
    ≡ record { codes = 0 ∷ 22 ∷ []; held = 301 ∷ [] }
    ∷ record { codes = 0 ∷ 22 ∷ []; held = 302 ∷ [] }
    ∷ record { codes = 0 ∷ 21 ∷ 21 ∷ []; held = 1 ∷ [] }
    ∷ record { codes = 0 ∷ 0 ∷ 21 ∷ []; held = 2 ∷ 3 ∷ [] }
    ∷ record { codes = 0 ∷ 0 ∷ []; held = 2 ∷ 3 ∷ [] }
    ∷ record { codes = 0 ∷ 0 ∷ []; held = 3 ∷ 2 ∷ [] }
    ∷ []
    )
    × AdmittedWhole order_line (opened (bytes hall_table)) (lines_of four_hops)
    × (flows_consistent (opened (bytes hall_table)).table four_hop_flows ≡ true)
    × (handover_text four_hop_flows ≡ flatten (map bytes four_hops))
    × (map (writing (bytes "ab")) (bytes "." ∷ bytes ".." ∷ bytes "..." ∷ [])
    ≡ record { code = 43; bytes = 0; area = bytes "." }
    ∷ record { code = 0; bytes = 2; area = bytes "ab" }
    ∷ record { code = 0; bytes = 2; area = bytes "ab." }
    ∷ [])
unfolding lines_of four_hops four_hop_flows hall_table gate pictures film_table film camera second_camera sorted flatten worked_batches worked growth_table growth_orders bytes bytes_from is_digit digits number field field_at padded justified between prepend lines is_row_length later_field row_fields row best_effort_in_range row_in_range continues begins row_in_turn same_link row_agrees row_cause queue_of new_link add_level add_row row_step line_step read_lines read_table head_fields hop_field hop_fields path_fields number_in_range hops_in_range head_in_range flow_of with_path registration_of registration release_of release_line change_fields change_in_range change_of change_line kind_number kind_of_number kind_order order_of_kind read_order order_line total largest ceil_div shortest_sending hop_growth burst_at_hop residual within_rate delay_bound backlog_bound blocking interference level_residual delay backlog is_empty level_code or_else levels_finding rate_code link_finding nth link_at queue_at threshold_of speed_of fixed_delay_of shares all_shares same_hop adds_at shares_at aggregate_at level_aggregates held_flows held_hops with_number crosses path_delay first_cause whole at_hop is_none start end no_queue met_earlier starts_elsewhere number_finding line_findings deadline_finding every is_held room_findings link_cause cause_at link_findings register_findings changed changed_slot change_findings findings first_index holds refuse fill perform decide apply table_of opened answer_columns answer_line line_answers order_answers after_orders answer_text refused_batch done_batch too_long too_short after_table batch early_findings before.shares before.all_shares before.level_aggregates before.cause_at before.link_findings before.change_findings before.findings before.apply before.line_answers before.flow_consistent before.flows_consistent growth_flows flow_in_range head_of flow_consistent flows_consistent joined head_text hop_text flow_columns flow_line handover_text refused_writing done_writing writing
worked-batches = (refl, refl, refl, refl, record { registrations = ((_, refl), ((_, refl), tt)); admitted = (refl, (refl, tt)) }, refl, refl, refl)

-- W-206: lines with a kind alone, in the three direct calls: the rest lacks in a line of the call's own kind (10), and isn't read in one of another (11); a
-- malformed kind (10).
pub worked-calls : map (λ kind. map (λ line. call_order (record { kind = kind; bytes = bytes line })) (" 1\n" ∷ " 2\n" ∷ " 3\n" ∷ "3 \n" ∷ []))
    (registering ∷ releasing ∷ changing ∷ [])
    ≡ (rejected 10 ∷ rejected 11 ∷ rejected 11 ∷ rejected 10 ∷ [])
    ∷ (rejected 11 ∷ rejected 10 ∷ rejected 11 ∷ rejected 10 ∷ [])
    ∷ (rejected 11 ∷ rejected 11 ∷ rejected 10 ∷ rejected 10 ∷ [])
    ∷ []
unfolding bytes bytes_from is_digit digits number field field_at prepend lines change_fields head_fields registration_of registration release_of release_line change_of change_line kind_number kind_of_number kind_order order_of_kind read_order line_of_kind only_line call_order
worked-calls = refl

-- 42: the link of a registry that calls find may have these best-effort frames, 0, 84 and 1,542, and not the others.
pub worked-links : map
    (λ n. link_consistent (record { from = 1; to = 2; speed = 100; levels = record { threshold = 1; buffer = 1 } ∷ []; fixed_delay = 0; best_effort = n }))
    (0 ∷ 1 ∷ 83 ∷ 84 ∷ 1542 ∷ 1543 ∷ [])
    ≡ true ∷ false ∷ false ∷ true ∷ true ∷ false ∷ []
unfolding link_consistent row_of row_in_range best_effort_in_range between every
worked-links = refl
