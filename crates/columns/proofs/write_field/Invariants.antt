-- `columns::write_field` meets its contract. The invariant: what is still to be written, before the columns from `at` on, stays the same.
use mathlib.Core.Path.{◌≡◌}
use mathlib.Core.List.{◌++◌}
use lib.ListN.{drop}
use Rattle.model.specs.Columns.{padded}
use Rattle.columns.proofs.write_field.Given as goal

abbrev pub invariant-loop-at : goal.invariant-loop-at
invariant-loop-at l = padded l.at l.rest ++ drop l.at l.part ≡ padded l.initial.at l.initial.rest ++ drop l.initial.at l.initial.part
