-- The loop that counts a flow in hop by hop: what the hops left add and the figures so far make the whole.
-- Assumes nothing.
use Prim.Native.Nat.{ℕ, ◌+◌, ◌*◌, ◌^◌, ◌≤◌, ◌<◌}
use mathlib.Core.Path.{◌≡◌, sym, ap, ap₂, ◌∙◌}
use mathlib.Core.List.{List, [], ◌∷◌}
use native.Mathlib.Omega.{arith}
use native.Mathlib.Decide.{ℕ_discrete}
use lib.ListN.{length, get_or}
use Rattle.model.specs.Sizes.{queues_most, hops_most}
use Rattle.model.specs.Orders.{Flow}
use Rattle.model.specs.Formula.{Aggregate}
use Rattle.model.specs.QueueTable.{Table}
use Rattle.model.specs.Aggregates as model
use Rattle.model.specs.WithFlow.{together}
use Rattle.model.proofs.Laws.Figures.{aggregate-alone, aggregate-more}
use Rattle.queue_table.specs.View.{table_of, hop_at, AllQueues}
use Rattle.figures.specs.View.{figure_numbers, figure_at, growth_at, LimitedShare, Below, figure_stored, FlowOf, PathAdded, Figures}
use Rattle.figures.proofs.FigureLaws.{at_most, stored-length, stored_here, stored_other, stored_more}
use Rattle.figures.proofs.EntryLaws.{left_at, left-none, left_here, left_other}

-- The figures so far, `figures`, with the hops from `i` on left, before which S is `sum`.
pub record Adding (share : Aggregate) (table entries before figures : List ℕ) (sum i : ℕ) : Type 0 where
  pub long : length figures ≡ figure_numbers
  pub within : i ≤ length entries
  pub sum_below : sum ≤ i * 100000
  pub below : (bound : ℕ) → Below bound before → Below (bound + i * 2 ^ 31) figures
  pub left : (f : Flow) → AllQueues table entries → FlowOf share entries f → (e : ℕ) → e < queues_most
      → together (left_at table f sum i e) (figure_at figures e) ≡ together (model.aggregate_at (table_of table) (f ∷ []) (hop_at e)) (figure_at before e)

module _ (share : Aggregate) (table entries before : List ℕ) where
  abbrev t : Table
  t = table_of table

  pub adding-none : length before ≡ figure_numbers → Adding share table entries before before 0 0
  adding-none long =
      record {
        long = long;
        within = omega arith;
        sum_below = omega arith;
        below = λ bound b j. omega (arith, b j);
        left = λ f named is e lt. ap (λ a. together a (figure_at before e)) (sym (aggregate-alone t f (hop_at e)));
      }

  module _ {figures : List ℕ} {sum i : ℕ} (so_far : Adding share table entries before figures sum i) where
    pub adding-all : length entries ≤ i → length entries ≤ hops_most → PathAdded share table entries before figures
    adding-all end few =
        record {
          long = so_far.long;
          same = λ f named is e lt. sym (left-none is table sum i end e (figure_at figures e)) ∙ so_far.left f named is e lt;
          below = λ bound b j. omega (arith, so_far.below bound b j, so_far.within);
        }

    -- The hop at `i` is counted in.
    module _ (more : i < length entries) (low : growth_at table (get_or entries i 0) ≤ 100000) (inside : get_or entries i 0 < queues_most)
        (small : LimitedShare (model.grown share sum)) where
      abbrev x : ℕ
      x = get_or entries i 0

      abbrev there : Aggregate
      there = together (figure_at figures x) (model.grown share sum)

      abbrev figures' : List ℕ
      figures' = figure_stored figures x there

      module _ (f : Flow) (named : AllQueues table entries) (is : FlowOf share entries f) where
        step : (e : ℕ) → Dec (e ≡ x)
            → together (left_at table f (sum + growth_at table x) (i + 1) e) (figure_at figures' e) ≡ together (left_at table f sum i e) (figure_at figures e)
        step e (yes same) =
            rw same
            (ap (together (left_at table f (sum + growth_at table x) (i + 1) x)) (stored_here figures x there (omega (arith, so_far.long)))
            ∙ sym (left_here is table sum i named more (figure_at figures x)))
        step e (no other) = ap₂ together (sym (left_other is table sum i named more e other)) (stored_other figures x there e other)

      next : Adding share table entries before figures' (sum + growth_at table x) (i + 1)
      next =
          record {
            long = stored-length figures x there ∙ so_far.long;
            within = omega arith;
            sum_below = omega (arith, so_far.sum_below);
            below = λ bound b j. omega (arith, stored_more figures x small (at_most there) (bound + i * 2 ^ 31) (so_far.below bound b) j);
            left = λ f named is e lt. step f named is e (ℕ_discrete e x) ∙ so_far.left f named is e lt;
          }

      -- Its share and S past it are those that were worked out.
      pub adding-next : {own : Aggregate} {past : ℕ} {after : List ℕ} → own ≡ model.grown share sum → past ≡ sum + growth_at table x
          → after ≡ figure_stored figures x (together (figure_at figures x) own)
          → Adding share table entries before after past (i + 1)
      adding-next own_is past_is stored =
          rw (stored ∙ ap (λ a. figure_stored figures x (together (figure_at figures x) a)) own_is, past_is) next

-- An array with the figures of the flows has those of the flow beside them, once its path is counted in.
pub figures-added : {fs : List Flow} {share : Aggregate} {table entries before after : List ℕ} (f : Flow)
    → AllQueues table entries → FlowOf share entries f
    → PathAdded share table entries before after
    → Figures (table_of table) fs before
    → Figures (table_of table) (f ∷ fs) after
figures-added {fs} {table = table} f named is added exact =
    record {
      long = added.long;
      same = λ e lt.
          added.same f named is e lt
          ∙ ap (together (model.aggregate_at (table_of table) (f ∷ []) (hop_at e))) (exact.same e lt)
          ∙ sym (aggregate-more (table_of table) f fs (hop_at e));
    }
