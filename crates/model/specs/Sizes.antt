-- Document 01's sizes: how many of each there are at the most, and what follows from that.
use Rattle.std.specs.Prelude.{ℕ, ◌+◌, ◌*◌}

-- Links of a table, levels of a link, and so queues.
abbrev pub links_most : ℕ
links_most = 64

abbrev pub levels_most : ℕ
levels_most = 8

abbrev pub queues_most : ℕ
queues_most = links_most * levels_most

-- Hops of a path; and µs that the thresholds along one sum to, each at most 100,000.
abbrev pub hops_most : ℕ
hops_most = 12

abbrev pub thresholds_most : ℕ
thresholds_most = hops_most * 100000

-- The greatest flow number.
abbrev pub number_most : ℕ
number_most = 65535

-- Slots (document 01: places), and hop entries for all flows together.
abbrev pub slot_count : ℕ
slot_count = 256

abbrev pub hop_entries : ℕ
hop_entries = 1024

-- Columns of a table line: up to the buffer, up to the fixed delay, up to the best-effort frame, and of the longest; bytes of a table text, whose lines end in
-- LF: 25,088.
abbrev pub base_columns : ℕ
base_columns = 36

abbrev pub delay_columns : ℕ
delay_columns = 43

abbrev pub best_effort_columns : ℕ
best_effort_columns = 48

abbrev pub row_columns : ℕ
row_columns = best_effort_columns

abbrev pub table_bytes : ℕ
table_bytes = queues_most * (row_columns + 1)

-- Columns of a registration before its hops, and of each hop.
abbrev pub head_columns : ℕ
head_columns = 41

abbrev pub hop_columns : ℕ
hop_columns = 6

-- Bytes and lines of an order text.
abbrev pub order_bytes : ℕ
order_bytes = 60000

abbrev pub order_lines : ℕ
order_lines = 2000

-- Bytes of an answer line, with its LF.
abbrev pub answer_bytes : ℕ
answer_bytes = 20

-- Bytes of the longest handover text (W-204): a line for each slot with its LF, and the columns of all hop entries: 16,896.
abbrev pub handover_most : ℕ
handover_most = (head_columns + 1) * slot_count + hop_columns * hop_entries
