-- Document 01, "A batch is table text, order text and an answer area": what it returns and what stands in the area then, for every input.
-- Order: 5, then line by line 1 to 4, then 41, 40.
use Rattle.std.specs.Prelude.{ℕ, suc, ◌*◌, Bool, cond, ◌||◌, List, [], ◌∷◌, ◌++◌, map, length, drop, ltb}
use Rattle.model.specs.Sizes.{order_bytes, order_lines, answer_bytes}
use Rattle.model.specs.Columns.{Line, lines}
use Rattle.model.specs.QueueTable.{TableText, accepted, refused, read_table}
use Rattle.model.specs.Orders.{order_line}
use Rattle.model.specs.Reference.{State, Answer, order_answers, opened}
use Rattle.model.specs.Answers.{answer_line}

-- The answers to the lines, order after order from the registry left behind.
unfoldable pub line_answers : State → List Line → List Answer
line_answers s ls = order_answers s (map order_line ls)

-- The text of answers, the first of which has this line number.
unfoldable pub answer_text : (number : ℕ) → List Answer → List ℕ
answer_text number [] = []
answer_text number (a ∷ more) = answer_line number a ++ answer_text (suc number) more

-- What a batch returns, and the answer area.
pub record Batch : Type 0 where
  pub code : ℕ
  pub line : ℕ
  pub area : List ℕ

-- Refused: nothing is written.
unfoldable pub refused_batch : (code line : ℕ) (area : List ℕ) → Batch
refused_batch code line area = record { code = code; line = line; area = area }

-- Done: 0 and the count of order lines. 20 bytes for each are written; those past the last line are as they were.
unfoldable pub done_batch : State → List Line → (area : List ℕ) → Batch
done_batch s ls area = record { code = 0; line = length ls; area = answer_text 1 (line_answers s ls) ++ drop (answer_bytes * length ls) area }

-- 41: order text above 60,000 bytes or 2,000 lines.
unfoldable pub too_long : (orders : List ℕ) → Bool
too_long orders = ltb order_bytes (length orders) || ltb order_lines (length (lines orders))

-- 40: answer area shorter than 20 bytes per order line.
unfoldable pub too_short : (orders area : List ℕ) → Bool
too_short orders area = ltb (length area) (answer_bytes * length (lines orders))

-- 1 to 5 come with the line that the table's text has for them, 41 and 40 with line 0.
unfoldable pub after_table : TableText → State → (orders area : List ℕ) → Batch
after_table (refused code line) s orders area = refused_batch code line area
after_table (accepted t) s orders area =
    cond (too_long orders) (refused_batch 41 0 area) (cond (too_short orders area) (refused_batch 40 0 area) (done_batch s (lines orders) area))

-- It starts with an empty registry on the table.
unfoldable pub batch : (table orders area : List ℕ) → Batch
batch table orders area = after_table (read_table table) (opened table) orders area
