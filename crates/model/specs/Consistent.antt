-- Document 01, "The book": when a registry is consistent (document 01: in order), over its table and its slots.
use Rattle.std.specs.Prelude.{Bool, not, ◌&&◌, List, ◌∷◌, ◌++◌, length, leb, eqb}
use Rattle.model.specs.Words.{every, is_none}
use Rattle.model.specs.Sizes.{links_most, levels_most, slot_count, hop_entries}
use Rattle.model.specs.Columns.{between}
use Rattle.model.specs.QueueTable.{Queue, Link, Table, Row, row_in_range}
use Rattle.model.specs.Orders.{Flow, Head, head_in_range, hops_in_range}
use Rattle.model.specs.Reference.{State, held_flows, held_hops, with_number, first_cause, line_findings, deadline_finding, link_findings}

-- A queue of a link as a table line gives it. Its turn is its place in the table.
unfoldable pub row_of : Link → Queue → Row
row_of l q =
    record {
      link = 0;
      from = l.from;
      to = l.to;
      speed = l.speed;
      level = 0;
      threshold = q.threshold;
      buffer = q.buffer;
      fixed_delay = l.fixed_delay;
      best_effort = l.best_effort;
    }

-- A link passes 2, 3 and 4: its ranges, 1 to 8 levels, two nodes.
unfoldable pub link_consistent : Link → Bool
link_consistent l = every (λ q. row_in_range (row_of l q)) l.levels && between 1 levels_most (length l.levels) && not (eqb l.from l.to)

unfoldable pub table_consistent : Table → Bool
table_consistent t = every link_consistent t && leb (length t) links_most

-- The columns of a flow's line before its hops.
unfoldable pub head_of : Flow → Head
head_of f =
    record { number = f.number; rate = f.rate; burst = f.burst; frame = f.frame; deadline = f.deadline; hops = length f.path }

-- 11: the ranges of a registration, its hop count among them.
unfoldable pub flow_in_range : Flow → Bool
flow_in_range f = head_in_range (head_of f) && hops_in_range (length f.path)

-- A held flow beside the others: 11; 12, no other has its number; 17, 14, 16, 15 and 20; 21 to 23 along its path.
unfoldable pub flow_consistent : Table → List Flow → Flow → Bool
flow_consistent t fs f =
    flow_in_range f
    && leb (with_number f.number fs) 1
    && is_none (first_cause (line_findings t f ++ deadline_finding t f ∷ link_findings t fs f.path))

-- A set of flows on a table: each beside the others, and the room limits.
unfoldable pub flows_consistent : Table → List Flow → Bool
flows_consistent t fs = every (flow_consistent t fs) fs && leb (length fs) slot_count && leb (held_hops fs) hop_entries

-- The table passes 2 to 4, there are so many slots, and the flows in them are consistent.
unfoldable pub consistent : State → Bool
consistent s = table_consistent s.table && eqb (length s.slots) slot_count && flows_consistent s.table (held_flows s.slots)
