-- A row stored in its place: its link has its numbers and its level as the last, and older links, whose places are below, stay as they were.
-- Assumes nothing.
use Prim.Native.Nat.{ℕ, zero, suc, ◌+◌, ◌-◌, ◌≤◌, ◌<◌}
use mathlib.Core.Path.{◌≡◌, refl, ap, ◌∙◌}
use mathlib.Core.List.{List, [], ◌∷◌, ◌++◌}
use native.Mathlib.Omega.{arith}
use lib.ListN.{length, get_or, set, length-set}
use lib.Seq.{sets, length-sets, get_or-set_same, get_or-set_other}
use Rattle.model.specs.Sizes.{links_most, levels_most}
use Rattle.model.specs.QueueTable as model
use Rattle.queue_table.specs.View.{entry_at, link_position, queue_position, count_position, table_numbers, up_to, queue_at, link_count, from_at, to_at, speed_at, levels_at, fixed_delay_at, best_effort_at, threshold_at, buffer_at, link_at, links_of, table_of, link_stored, queue_stored, row_stored, Linked, WellFormed, Placed}
use Rattle.queue_table.proofs.ViewLaws.{up_same, down-same}

-- Numbers stored from `i` on: below that and past them nothing changes, and each number stands where it was stored.
sets_below : (l : List ℕ) (i : ℕ) (vs : List ℕ) (k : ℕ) → k < i → get_or (sets l i vs) k 0 ≡ get_or l k 0
sets_below l i [] k h = refl
sets_below l i (v ∷ vs) k h = sets_below (set l i v) (suc i) vs k (omega arith) ∙ get_or-set_other l i k v 0 (omega arith)

sets-past : (l : List ℕ) (i : ℕ) (vs : List ℕ) (k : ℕ) → i + length vs ≤ k → get_or (sets l i vs) k 0 ≡ get_or l k 0
sets-past l i [] k h = refl
sets-past l i (v ∷ vs) k h = sets-past (set l i v) (suc i) vs k (omega arith) ∙ get_or-set_other l i k v 0 (omega arith)

sets-at : (l : List ℕ) (i : ℕ) (vs : List ℕ) (k : ℕ) → k < length vs → i + length vs ≤ length l → get_or (sets l i vs) (i + k) 0 ≡ get_or vs k 0
sets-at l i [] k h room = absurd (omega arith)
sets-at l i (v ∷ vs) zero h room =
    let e : i + 0 ≡ i = omega arith in
    rw e (sets_below (set l i v) (suc i) vs i (omega arith) ∙ get_or-set_same l i v 0 (omega arith))
sets-at l i (v ∷ vs) (suc k) h room =
    let e : i + suc k ≡ suc i + k = omega arith in
    rw e (sets-at (set l i v) (suc i) vs k (omega arith) (omega (arith, length-set l i v)))

-- The link of a row, with these levels.
abbrev pub link_with : model.Row → List model.Queue → model.Link
link_with r qs = record { from = r.from; to = r.to; speed = r.speed; fixed_delay = r.fixed_delay; best_effort = r.best_effort; levels = qs }

module _ (r : model.Row) (table : List ℕ) (placed : Placed r table) where
  abbrev link_numbers : List ℕ
  link_numbers = r.from ∷ r.to ∷ r.speed ∷ r.level ∷ r.fixed_delay ∷ r.best_effort ∷ []

  abbrev queue_numbers : List ℕ
  queue_numbers = r.threshold ∷ r.buffer ∷ []

  abbrev link_at' : ℕ
  link_at' = link_position (r.link - 1)

  abbrev queue_at' : ℕ
  queue_at' = queue_position (entry_at (r.link - 1) (r.level - 1))

  -- The numbers of older links.
  link-kept : (k : ℕ) → k < link_at' → get_or (row_stored r table) k 0 ≡ get_or table k 0
  unfolding link_stored queue_stored
  link-kept k h = sets_below (link_stored r table) queue_at' queue_numbers k (omega (arith, placed.link-high)) ∙ sets_below table link_at' link_numbers k h

  pub link-stored : (k : ℕ) → k < 6 → get_or (row_stored r table) (link_at' + k) 0 ≡ get_or link_numbers k 0
  unfolding link_stored queue_stored
  link-stored k h =
      sets_below (link_stored r table) queue_at' queue_numbers (link_at' + k) (omega (arith, placed.link-low, placed.link-high))
      ∙ sets-at table link_at' link_numbers k h (omega (arith, placed.long, placed.link-low, placed.link-high))

  -- The numbers of queues before the row's.
  queue-number : (k : ℕ) → link_position links_most ≤ k → k < queue_at' → get_or (row_stored r table) k 0 ≡ get_or table k 0
  unfolding link_stored queue_stored
  queue-number k low h =
      sets_below (link_stored r table) queue_at' queue_numbers k h
      ∙ sets-past table link_at' link_numbers k (omega (arith, placed.link-low, placed.link-high))

  queue-kept : (i p : ℕ) → entry_at i p < entry_at (r.link - 1) (r.level - 1) → queue_at (row_stored r table) i p ≡ queue_at table i p
  unfolding queue_at threshold_at buffer_at
  queue-kept i p h =
      λ t.
      record {
        threshold = queue-number (queue_position (entry_at i p)) (omega arith) (omega arith) t;
        buffer = queue-number (queue_position (entry_at i p) + 1) (omega arith) (omega arith) t;
      }

  queue-stored : queue_at (row_stored r table) (r.link - 1) (r.level - 1) ≡ model.queue_of r
  unfolding queue_at threshold_at buffer_at link_stored queue_stored model.queue_of
  queue-stored =
      let room : queue_at' + 2 ≤ length (link_stored r table)
      = omega (arith, length-sets table link_at' link_numbers, placed.long, placed.link-low, placed.link-high, placed.level-low, placed.level-high) in
      let e : queue_at' + 0 ≡ queue_at' = omega arith in
      λ t.
      record {
        threshold = (rw e at (sets-at (link_stored r table) queue_at' queue_numbers 0 (omega arith) room)) t;
        buffer = sets-at (link_stored r table) queue_at' queue_numbers 1 (omega arith) room t;
      }

  -- The levels of a link up to one that stands before the row's.
  levels-kept : (i n : ℕ) → entry_at i n ≤ entry_at (r.link - 1) (r.level - 1) → up_to n (queue_at (row_stored r table) i) ≡ up_to n (queue_at table i)
  levels-kept i n h = up_same n (queue_at (row_stored r table) i) (queue_at table i) (λ p lt. queue-kept i p (omega arith))

  pub older-levels : (i : ℕ) → i < r.link - 1 → levels_at (row_stored r table) i ≡ levels_at table i
  unfolding levels_at
  older-levels i h = link-kept (link_position i + 3) (omega arith)

  -- An older link is as it was.
  older : (i : ℕ) → i < r.link - 1 → levels_at table i ≤ levels_most → link_at (row_stored r table) i ≡ link_at table i
  unfolding link_at from_at to_at speed_at fixed_delay_at best_effort_at
  older i h few =
      let same : levels_at (row_stored r table) i ≡ levels_at table i = older-levels i h in
      λ t.
      record {
        from = link-kept (link_position i) (omega arith) t;
        to = link-kept (link_position i + 1) (omega arith) t;
        speed = link-kept (link_position i + 2) (omega arith) t;
        fixed_delay = link-kept (link_position i + 4) (omega arith) t;
        best_effort = link-kept (link_position i + 5) (omega arith) t;
        levels =
            (ap (λ (n : ℕ). up_to n (queue_at (row_stored r table) i)) same ∙ levels-kept i (levels_at table i) (omega (arith, placed.level-low))) t;
      }

  -- The row's link has its numbers, and levels up to the row's.
  pub stored : link_at (row_stored r table) (r.link - 1)
      ≡ link_with r (up_to r.level (queue_at (row_stored r table) (r.link - 1)))
  unfolding link_at from_at to_at speed_at levels_at fixed_delay_at best_effort_at
  stored =
      let e : link_at' + 0 ≡ link_at' = omega arith in
      λ t.
      record {
        from = (rw e at (link-stored 0 (omega arith))) t;
        to = link-stored 1 (omega arith) t;
        speed = link-stored 2 (omega arith) t;
        fixed_delay = link-stored 4 (omega arith) t;
        best_effort = link-stored 5 (omega arith) t;
        levels = up_to (link-stored 3 (omega arith) t) (queue_at (row_stored r table) (r.link - 1));
      }

  -- Its levels are those before, and the row's.
  pub stored-levels : up_to r.level (queue_at (row_stored r table) (r.link - 1)) ≡ up_to (r.level - 1) (queue_at table (r.link - 1)) ++ (model.queue_of r ∷ [])
  unfolding up_to
  stored-levels =
      let e : r.level ≡ suc (r.level - 1) = omega (arith, placed.level-low) in
      ap (λ (n : ℕ). up_to n (queue_at (row_stored r table) (r.link - 1))) e
      ∙ ap (λ (q : model.Queue). up_to (r.level - 1) (queue_at (row_stored r table) (r.link - 1)) ++ (q ∷ [])) queue-stored
      ∙ ap (λ (l : List model.Queue). l ++ (model.queue_of r ∷ [])) (levels-kept (r.link - 1) (r.level - 1) (omega arith))

  -- All older links together.
  pub older-links : (n : ℕ) → n ≤ r.link - 1 → ((i : ℕ) → i < n → levels_at table i ≤ levels_most)
      → links_of n (row_stored r table) ≡ links_of n table
  unfolding links_of
  older-links n h few = down-same n (link_at (row_stored r table)) (link_at table) (λ i lt. older i (omega arith) (few i lt))

  pub stored-long : length (row_stored r table) ≡ table_numbers
  unfolding link_stored queue_stored
  stored-long = length-sets (link_stored r table) queue_at' queue_numbers ∙ length-sets table link_at' link_numbers ∙ placed.long

-- The number of links stored behind them changes none of them.
module _ (n : ℕ) (table : List ℕ) (linked : Linked n table) where
  abbrev counted : List ℕ
  counted = set table count_position n

  number-kept : (k : ℕ) → k < count_position → get_or counted k 0 ≡ get_or table k 0
  number-kept k h = get_or-set_other table count_position k n 0 (omega arith)

  count-stored : link_count counted ≡ n
  unfolding link_count
  count-stored = get_or-set_same table count_position n 0 (omega (arith, linked.long))

  levels-same : (i : ℕ) → i < n → levels_at counted i ≡ levels_at table i
  unfolding levels_at
  levels-same i h = number-kept (link_position i + 3) (omega (arith, linked.few))

  queue-same : (i p : ℕ) → i < n → p < levels_most → queue_at counted i p ≡ queue_at table i p
  unfolding queue_at threshold_at buffer_at
  queue-same i p h k =
      λ t.
      record {
        threshold = number-kept (queue_position (entry_at i p)) (omega (arith, linked.few)) t;
        buffer = number-kept (queue_position (entry_at i p) + 1) (omega (arith, linked.few)) t;
      }

  link-same : (i : ℕ) → i < n → link_at counted i ≡ link_at table i
  unfolding link_at from_at to_at speed_at fixed_delay_at best_effort_at
  link-same i h =
      λ t.
      record {
        from = number-kept (link_position i) (omega (arith, linked.few)) t;
        to = number-kept (link_position i + 1) (omega (arith, linked.few)) t;
        speed = number-kept (link_position i + 2) (omega (arith, linked.few)) t;
        fixed_delay = number-kept (link_position i + 4) (omega (arith, linked.few)) t;
        best_effort = number-kept (link_position i + 5) (omega (arith, linked.few)) t;
        levels =
            (ap (λ (m : ℕ). up_to m (queue_at counted i)) (levels-same i h)
            ∙ up_same (levels_at table i) (queue_at counted i) (queue_at table i) (λ p lt. queue-same i p h (omega (arith, linked.shallow i h)))) t;
      }

  pub table_counted : table_of counted ≡ up_to n (link_at table)
  unfolding table_of
  table_counted = ap (λ (m : ℕ). up_to m (link_at counted)) count-stored ∙ up_same n (link_at counted) (link_at table) link-same

  pub counted-formed : WellFormed counted
  counted-formed =
      record {
        long = length-set table count_position n ∙ linked.long;
        few = omega (arith, count-stored, linked.few);
        shallow = λ i h.
            let lt : i < n = omega (arith, count-stored) in
            omega (arith, levels-same i lt, linked.shallow i lt);
      }
