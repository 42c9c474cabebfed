-- A registry of zeros on a table that was read is the one that `open` gives.
-- Assumes nothing.
use Rattle.std.specs.Prelude.{Result}
use Prim.Native.Nat.{ℕ}
use mathlib.Core.Path.{◌≡◌}
use mathlib.Core.List.{List}
use lib.ListN.{replicate}
use Rattle.queue_table.specs.declared.Refusal.{Refusal}
use Rattle.queue_table.specs.View.{TableFilled}
use Rattle.flow_store.specs.View.{slot_words, store_numbers}
use Rattle.figures.specs.View.{figure_numbers}
use Rattle.admission.proofs.OpenLaws.{empty, empty-consistent}
use Rattle.registry.specs.View.{OpensOn}

pub opens : (text table : List ℕ) (v : Result (Unit {0}) Refusal) → TableFilled text v table
    → (bits store figures : ℕ) → bits ≡ slot_words → store ≡ store_numbers → figures ≡ figure_numbers
    → OpensOn text (record { verdict = v; registry = record { table = table; bits = replicate bits 0; store = replicate store 0; figures = replicate figures 0 } })
opens text table v filled bits store figures bits_are Store-is figures-are =
    record {
      verdict = filled.same;
      state = empty text table v filled bits store figures bits_are Store-is figures-are;
      is-consistent = empty-consistent text table v filled bits store figures bits_are Store-is figures-are;
    }
