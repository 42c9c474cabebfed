-- `order_text::write_path` meets its contract: what is left of the path goes to `at`, hop by hop.
use Prim.Native.Nat.{ℕ}
use mathlib.Core.List.{List, ◌++◌}
use lib.ListN.{length, drop}
use Rattle.model.specs.Words.{joined}
use Rattle.model.specs.Handover.{hop_text}
use Rattle.queue_table.specs.View.{hop_at}
use Rattle.columns.proofs.PartLaws.{Filling}
use Rattle.order_text.proofs.write_path.Given as goal

-- What is written for an entry, and for all of them.
abbrev pub entry_text : ℕ → List ℕ
entry_text e = hop_text (hop_at e)

abbrev pub invariant-loop-entry : goal.invariant-loop-entry
invariant-loop-entry l = Filling (joined entry_text l.entries ++ drop (length (joined entry_text l.entries)) l.initial.part) (joined entry_text (drop l.entry-index l.entries)) l.part (length l.initial.part) l.at
