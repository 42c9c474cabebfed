-- The loop that counts a flow by another share hop by hop: what the hops left add by the old share is still in the figures.
-- Assumes nothing.
use Prim.Native.Nat.{ℕ, ◌+◌, ◌*◌, ◌^◌, ◌≤◌, ◌<◌}
use mathlib.Core.Path.{◌≡◌, sym, ap, ◌∙◌}
use mathlib.Core.List.{List, ◌∷◌}
use native.Mathlib.Omega.{arith}
use native.Mathlib.Decide.{ℕ_discrete}
use lib.ListN.{length, get_or}
use Rattle.model.specs.Sizes.{queues_most}
use Rattle.model.specs.Orders.{Flow}
use Rattle.model.specs.Formula.{Aggregate}
use Rattle.model.specs.QueueTable.{Table}
use Rattle.model.specs.Aggregates as model
use Rattle.model.specs.WithFlow.{together}
use Rattle.queue_table.specs.View.{table_of, hop_at, AllQueues}
use Rattle.figures.specs.View.{figure_numbers, figure_at, growth_at, replaced, changed_at, RoomAt, LimitedShare, Below, figure_stored, FlowOf, Figures, PathCounted, PathChanged}
use Rattle.figures.proofs.FigureLaws.{kept_frame, kept_same, replaced-own, replaced-most, stored-length, stored_here, stored_other, stored_more}
use Rattle.figures.proofs.EntryLaws.{left_at, left-whole, left-none, left_here, left_other}

-- What the hops from `i` on add at queue `e`, beside `others`: by the old share in its figures so far, by the new one in those that it is to have.
pub record Between (was share : Aggregate) (table entries figures : List ℕ) (sum i : ℕ) (f : Flow) (fs : List Flow) (e : ℕ) : Type 0 where
  pub others : Aggregate
  pub old : figure_at figures e ≡ together (left_at table f sum i e) others
  pub new : (g : Flow) → FlowOf share entries g → was.frame ≡ share.frame
      → model.aggregate_at (table_of table) (g ∷ fs) (hop_at e) ≡ together (left_at table g sum i e) others

-- The figures so far, `figures`, with the hops from `i` on left, before which S is `sum`.
pub record Changing (was share : Aggregate) (table entries before figures : List ℕ) (sum i : ℕ) : Type 0 where
  pub long : length figures ≡ figure_numbers
  pub sum_below : sum ≤ i * 100000
  pub below : (bound : ℕ) → Below bound before → Below (bound + i * 2 ^ 31) figures
  pub left : (f : Flow) (fs : List Flow) → AllQueues table entries → FlowOf was entries f → Figures (table_of table) (f ∷ fs) before
      → (e : ℕ) → e < queues_most
      → Between was share table entries figures sum i f fs e

module _ (was share : Aggregate) (table entries before : List ℕ) where
  abbrev t : Table
  t = table_of table

  pub changing-none : length before ≡ figure_numbers → Changing was share table entries before before 0 0
  changing-none long =
      record {
        long = long;
        sum_below = omega arith;
        below = λ bound b j. omega (arith, b j);
        left = λ f fs named is exact e lt.
            record { others = model.aggregate_at t fs (hop_at e); old = exact.same e lt ∙ left-whole table f fs e; new = λ g is' same. left-whole table g fs e };
      }

  module _ {figures : List ℕ} {sum i : ℕ} (so_far : Changing was share table entries before figures sum i) where
    pub changing-all : length entries ≤ i → PathChanged was share table entries before figures
    changing-all end =
        record {
          long = so_far.long;
          same = λ f g fs named is is' same exact.
              record {
                long = so_far.long;
                same = λ e lt.
                    let there = so_far.left f fs named is exact e lt in
                    there.old
                    ∙ left-none is table sum i end e there.others
                    ∙ sym (left-none is' table sum i end e there.others)
                    ∙ sym (there.new g is' same);
              };
        }

    module _ (more : i < length entries) (inside : get_or entries i 0 < queues_most) where
      abbrev x : ℕ
      x = get_or entries i 0

      abbrev past : ℕ
      past = sum + growth_at table x

      abbrev gone : Aggregate
      gone = model.grown was sum

      abbrev come : Aggregate
      come = model.grown share sum

      -- The flow is still counted in at the hop by its old share.
      pub changing-room : PathCounted was table entries before → RoomAt was figures x sum
      unfolding together
      changing-room counted =
          let now = so_far.left counted.f counted.fs counted.named counted.is counted.exact x inside in
          let there = now.old ∙ left_here counted.is table sum i counted.named more now.others in
          (omega (arith, ap (λ (a : Aggregate). a.rate) there), omega (arith, ap (λ (a : Aggregate). a.burst) there))

      -- The figures at the hop are stored.
      abbrev figures' : List ℕ
      figures' = figure_stored figures x (changed_at was share figures x sum)

      module _ (f : Flow) (fs : List Flow) (named : AllQueues table entries) (is : FlowOf was entries f) (exact : Figures t (f ∷ fs) before) where
        step : (e : ℕ) → e < queues_most → Dec (e ≡ x) → Between was share table entries figures' past (i + 1) f fs e
        step e lt (yes at-hop) =
            let now = so_far.left f fs named is exact x inside in
            rw at-hop
            (record {
              others = together now.others (kept_frame gone come);
              old =
                  stored_here figures x (changed_at was share figures x sum) (omega (arith, so_far.long))
                  ∙ ap (λ a. replaced a gone come) (now.old ∙ left_here is table sum i named more now.others)
                  ∙ replaced-own (left_at table f past (i + 1) x) now.others gone come;
              new = λ g is' same.
                  now.new g is' same
                  ∙ left_here is' table sum i named more now.others
                  ∙ ap (λ a. together (left_at table g past (i + 1) x) (together now.others a)) (sym (kept_same gone come same));
            })
        step e lt (no other) =
            let now = so_far.left f fs named is exact e lt in
            record {
              others = now.others;
              old =
                  stored_other figures x (changed_at was share figures x sum) e other
                  ∙ now.old
                  ∙ ap (λ a. together a now.others) (left_other is table sum i named more e other);
              new = λ g is' same. now.new g is' same ∙ ap (λ a. together a now.others) (left_other is' table sum i named more e other);
            }

      pub changing-next : growth_at table x ≤ 100000 → LimitedShare come → {own : Aggregate} {past' : ℕ} {after : List ℕ} → own ≡ changed_at was share figures x sum → past' ≡ past
          → after ≡ figure_stored figures x own
          → Changing was share table entries before after past' (i + 1)
      changing-next low small own_is past_is stored =
          rw (stored ∙ ap (figure_stored figures x) own_is, past_is)
          (record {
            long = stored-length figures x (changed_at was share figures x sum) ∙ so_far.long;
            sum_below = omega (arith, so_far.sum_below);
            below = λ bound b j. omega (arith, stored_more figures x small (replaced-most (figure_at figures x) gone come) (bound + i * 2 ^ 31) (so_far.below bound b) j);
            left = λ f fs named is exact e lt. step f fs named is exact e lt (ℕ_discrete e x);
          })
