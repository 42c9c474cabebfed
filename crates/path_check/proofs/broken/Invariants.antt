-- `path_check::broken` meets its contract. The invariant: the search from hop i on answers what the whole search does.
use mathlib.Core.Path.{◌≡◌}
use mathlib.Core.List.{[], map}
use Rattle.model.specs.Reference.{at_hop, starts_elsewhere}
use Rattle.model.proofs.Laws.Path.{search_from}
use Rattle.queue_table.specs.View.{table_of, hop_at}
use Rattle.path_check.proofs.broken.Given as goal

abbrev pub invariant-loop-i : goal.invariant-loop-i
invariant-loop-i l = at_hop 15 (starts_elsewhere (table_of l.table)) [] (map hop_at l.entries) ≡ search_from 15 (starts_elsewhere (table_of l.table)) (map hop_at l.entries) l.i
