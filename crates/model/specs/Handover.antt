-- W-204: the held flows written as order lines of kind 1, lowest slot first, in the columns that are read; and what a writer of any text says and leaves in the area that it was lent.
use Rattle.std.specs.Prelude.{ℕ, ◌+◌, ◌*◌, ◌≡◌, cond, false, List, [], ◌∷◌, ◌++◌, map, length, drop, ltb}
use Rattle.model.specs.Words.{joined}
use Rattle.model.specs.Sizes.{head_columns, hop_columns}
use Rattle.model.specs.Total.{total}
use Rattle.model.specs.Columns.{justified, lines}
use Rattle.model.specs.Orders.{Hop, Head, Flow, register, registering, kind_number, order_line}
use Rattle.model.specs.Reference.{held_flows, after_orders, opened}
use Rattle.model.specs.Consistent.{head_of}
use Rattle.model.specs.Batch.{line_answers, too_long}
use Rattle.model.specs.AnyOrder.{slots_from, in_turn}

-- The columns of a registration before its hops: kind 2 columns, flow number 6, rate 9, burst 8, largest frame 5, deadline 8, number of hops 3.
unfoldable pub head_text : Head → List ℕ
head_text h =
    justified 2 (kind_number registering)
    ++ (justified 6 h.number
    ++ (justified 9 h.rate
    ++ (justified 8 h.burst
    ++ (justified 5 h.frame
    ++ (justified 8 h.deadline
    ++ justified 3 h.hops)))))

-- A hop: link 4 columns, level 2.
unfoldable pub hop_text : Hop → List ℕ
hop_text h = justified 4 h.link ++ justified 2 h.level

-- A flow's line without its LF.
unfoldable pub flow_columns : Flow → List ℕ
flow_columns f = head_text (head_of f) ++ joined hop_text f.path

unfoldable pub flow_line : Flow → List ℕ
flow_line f = flow_columns f ++ (10 ∷ [])

-- The text: the lines of the flows one after the other.
unfoldable pub handover_text : List Flow → List ℕ
handover_text fs = joined flow_line fs

-- How many bytes it has: 42 + 6 × hops, summed over the flows.
unfoldable pub handover_bytes : List Flow → ℕ
handover_bytes fs = total (λ f. head_columns + 1 + hop_columns * length f.path) fs

-- What a writer says, and the area that it was lent.
pub record Writing : Type 0 where
  pub code : ℕ
  pub bytes : ℕ
  pub area : List ℕ

-- Refused: 0 bytes, and nothing is written.
unfoldable pub refused_writing : (code : ℕ) (area : List ℕ) → Writing
refused_writing code area = record { code = code; bytes = 0; area = area }

-- Done: the text stands in the first bytes, and every byte past it is as it was.
unfoldable pub done_writing : (text area : List ℕ) → Writing
done_writing text area = record { code = 0; bytes = length text; area = text ++ drop (length text) area }

-- 43: an area too short for the text. One exactly as long is long enough.
unfoldable pub writing : (text area : List ℕ) → Writing
writing text area = cond (ltb (length area) (length text)) (refused_writing 43 area) (done_writing text area)

-- What the text of the flows `fs` promises, read as the orders of a batch over the table text `table`.
pub record HandsOver (table : List ℕ) (fs : List Flow) : Type 0 where
  -- Its bytes and its lines are within a batch's limits (41).
  pub fits : too_long (handover_text fs) ≡ false
  -- A line is the registration of its flow, and is admitted, with slots 1, 2, 3, .. as they come.
  pub read : map order_line (lines (handover_text fs)) ≡ map register fs
  pub answers : line_answers (opened table) (lines (handover_text fs)) ≡ slots_from 1 (length fs)
  -- There the flows are held then, the same in the same order.
  pub left : after_orders (opened table) (map order_line (lines (handover_text fs))) ≡ record { table = (opened table).table; slots = in_turn fs }
  pub flows : held_flows (after_orders (opened table) (map order_line (lines (handover_text fs)))).slots ≡ fs
