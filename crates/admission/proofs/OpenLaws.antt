-- A registry of zeros on a table that was read is the empty one, and consistent.
-- Assumes nothing.
use Rattle.std.specs.Prelude.{Result}
use Prim.Native.Nat.{ℕ, zero, suc}
use mathlib.Core.Path.{◌≡◌, refl, sym, ap, ap₂, ◌∙◌}
use mathlib.Core.Bool.{true≢false}
use mathlib.Core.List.{List, [], ◌∷◌}
use mathlib.Core.Option.{none}
use native.Mathlib.Omega.{arith}
use lib.ListN.{replicate, length-replicate}
use Rattle.model.specs.Sizes.{slot_count}
use Rattle.model.specs.Reference.{Slot, held_flows, opened}
use Rattle.model.proofs.Laws.Reached.{opened-rules, rules-state, none-held}
use Rattle.queue_table.specs.declared.Refusal.{Refusal}
use Rattle.queue_table.specs.View.{table_of, TableFilled}
use Rattle.bit_words.specs.Laws.{zero-at, none-set}
use Rattle.flow_store.specs.View.{slot_words, store_numbers, slots_of, slots_from, slot_of, counts_from}
use Rattle.flow_store.proofs.ViewLaws.{count-free}
use Rattle.figures.specs.View.{figure_numbers}
use Rattle.figures.proofs.ClearLaws.{figures-none}
use Rattle.admission.specs.View.{state_of, ConsistentArrays}

free-slots : (w n i : ℕ) (store : List ℕ) → slots_from n i (replicate w 0) store ≡ replicate n none
unfolding slots_from slot_of
free-slots w zero i store = refl
free-slots w (suc n) i store = rw (none-set w i) (ap₂ (λ (x : Slot) (l : List Slot). x ∷ l) refl (free-slots w n (suc i) store))

free-counts : (w n i : ℕ) (store : List ℕ) → counts_from n i (replicate w 0) store ≡ 0
unfolding counts_from
free-counts w zero i store = refl
free-counts w (suc n) i store = rw (count-free (replicate w 0) store i (none-set w i)) (omega (arith, free-counts w n (suc i) store))

module _ (text table : List ℕ) (v : Result (Unit {0}) Refusal) (filled : TableFilled text v table)
    (bits store figures : ℕ) (bits_are : bits ≡ slot_words) (Store-is : store ≡ store_numbers) (figures-are : figures ≡ figure_numbers) where
  pub empty : state_of table (replicate bits 0) (replicate store 0) ≡ opened text
  unfolding opened slots_of
  empty = λ i. record { table = filled.held i; slots = free-slots bits slot_count 0 (replicate store 0) i }

  no-flows : held_flows (slots_of (replicate bits 0) (replicate store 0)) ≡ []
  unfolding slots_of
  no-flows = ap held_flows (free-slots bits slot_count 0 (replicate store 0)) ∙ none-held slot_count

  pub empty-consistent : ConsistentArrays table (replicate bits 0) (replicate store 0) (replicate figures 0)
  empty-consistent =
      record {
        formed = filled.kept;
        stored = record {
          bits-long = length-replicate bits 0 ∙ bits_are;
          store_long = length-replicate store 0 ∙ Store-is;
          packed = record {
            fits = omega (arith, free-counts bits slot_count 0 (replicate store 0));
            starts = λ i lt set. absurd (true≢false (sym set ∙ none-set bits i));
          };
        };
        is-consistent = rw empty (rules-state (opened text) (opened-rules text));
        exact = rw no-flows (figures-none (table_of table) (replicate figures 0) (length-replicate figures 0 ∙ figures-are) (λ j. omega (arith, zero-at figures j)));
      }
