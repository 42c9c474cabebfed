-- Entries in the terms of the model: the hop that an entry names, its queue, and what the tests of a hop say of it.
-- By dividing the entry by 8. Assumes nothing.
use Prim.Native.Nat.{ℕ, ◌+◌, ◌-◌, ◌≤◌, ◌<◌}
use mathlib.Core.Path.{◌≡◌, refl, sym, ap, ap₂, ◌∙◌}
use mathlib.Core.Bool.{Bool, true, false, not, ◌&&◌, ◌||◌}
use mathlib.Core.List.{List, [], ◌∷◌, map}
use mathlib.Core.Option.{none}
use native.Mathlib.Omega.{arith}
use borrow.Author.Tests.{ltb-true, ltb-false, lt-ltb}
use lib.ListN.{length, get_or}
use lib.Dec.{ltb, eqb}
use Rattle.model.specs.Words.{every, is_none}
use Rattle.model.specs.Sizes.{links_most, levels_most, queues_most}
use Rattle.model.specs.Orders.{Hop}
use Rattle.model.specs.Total.{total}
use Rattle.model.proofs.Laws.All.{all_get_d}
use Rattle.model.specs.Aggregates as model
use Rattle.model.specs.Reference.{at_hop, start, end, no_queue, crosses, starts_elsewhere, path_delay}
use Rattle.model.proofs.Laws.Test.{both-and, every-all}
use Rattle.queue_table.specs.View.{table_of, link_count, from_at, to_at, levels_at, link_at, entry_at, link_in, level_in, hop_at, is_queue, AllQueues}
use Rattle.path_check.specs.View.{delay_at}
use Rattle.queue_table.proofs.LookupLaws.{link-found, queue-found, queue-no-link, queue-no-level, queue-link-zero, queue-level-zero}
use Rattle.queue_table.proofs.ViewLaws.{same_test}
use Rattle.queue_table.proofs.EntryLaws.{queue-within, queue-low, threshold-named, fixed_named}

-- Link i + 1 is crossed, one entry at a time.
pub crosses-entry : (i e : ℕ) (path : List Hop) → crosses (i + 1) (hop_at e ∷ path) ≡ (eqb (link_in e) i || crosses (i + 1) path)
unfolding crosses hop_at
crosses-entry i e path = ap (λ (b : Bool). b || crosses (i + 1) path) (same_test (link_in e + 1) (i + 1) (link_in e) i (λ e. omega arith) (λ e. omega arith))

module _ (table : List ℕ) where
  -- The entry of link and level, counted from 1.
  pub entry-names : (link level : ℕ) → 1 ≤ link → 1 ≤ level → link - 1 < link_count table → level ≤ levels_at table (link - 1) → levels_at table (link - 1) ≤ levels_most
      → (hop_at (entry_at (link - 1) (level - 1)) ≡ record { link = link; level = level }) × (is_queue table (entry_at (link - 1) (level - 1)) ≡ true)
  unfolding hop_at is_queue
  entry-names link level one_link one-level few low high =
      let quotient : link_in (entry_at (link - 1) (level - 1)) ≡ link - 1 = omega arith in
      let remainder : level_in (entry_at (link - 1) (level - 1)) ≡ level - 1 = omega arith in
      let same-link : link - 1 + 1 ≡ link = omega arith in
      let same-level : level - 1 + 1 ≡ level = omega arith in (
        rw (quotient, remainder, same-link, same-level),
        rw (quotient, remainder) (both-and (lt-ltb (link - 1) (link_count table) few) (lt-ltb (level - 1) (levels_at table (link - 1)) (omega arith))),
      )

  -- No queue has this link and level.
  pub no-link-zero : (link level : ℕ) → link ≡ 0 → model.queue_at (table_of table) (record { link = link; level = level }) ≡ none
  no-link-zero link level z = rw z (queue-link-zero table level)

  pub no-link : (link level : ℕ) → 1 ≤ link → link_count table ≤ link - 1
      → model.queue_at (table_of table) (record { link = link; level = level }) ≡ none
  no-link link level pos h =
      let e : link - 1 + 1 ≡ link = omega arith in
      rw e at (queue-no-link table (link - 1) level h)

  pub no-level-zero : (link level : ℕ) → 1 ≤ link → link - 1 < link_count table → level ≡ 0
      → model.queue_at (table_of table) (record { link = link; level = level }) ≡ none
  no-level-zero link level pos h z =
      let e : link - 1 + 1 ≡ link = omega arith in
      rw z (rw e at (queue-level-zero table (link - 1) h))

  pub no-level : (link level : ℕ) → 1 ≤ link → link - 1 < link_count table → 1 ≤ level → levels_at table (link - 1) < level
      → model.queue_at (table_of table) (record { link = link; level = level }) ≡ none
  no-level link level pos h pos' k =
      let e : link - 1 + 1 ≡ link = omega arith in
      let e' : level - 1 + 1 ≡ level = omega arith in
      rw (e, e') at (queue-no-level table (link - 1) (level - 1) h (omega arith))

  -- 14 of an entry of any value.
  pub no-queue : (earlier : List Hop) (e : ℕ) → no_queue (table_of table) earlier (hop_at e) ≡ not (is_queue table e)
  unfolding no_queue is_none hop_at is_queue
  no-queue earlier e = go (ltb (link_in e) (link_count table)) (ltb (level_in e) (levels_at table (link_in e))) refl refl
    where
      go : (a b : Bool) → ltb (link_in e) (link_count table) ≡ a → ltb (level_in e) (levels_at table (link_in e)) ≡ b
          → is_none (model.queue_at (table_of table) (record { link = link_in e + 1; level = level_in e + 1 })) ≡ not (a && b)
      go true true p q = ap is_none (queue-found table (link_in e) (level_in e) (ltb-true _ _ p) (ltb-true _ _ q))
      go true false p q = ap is_none (queue-no-level table (link_in e) (level_in e) (ltb-true _ _ p) (ltb-false _ _ q))
      go false b p q = ap is_none (queue-no-link table (link_in e) (level_in e + 1) (ltb-false _ _ p))

  pub every-queue : (earlier : List Hop) (entries : List ℕ)
      → is_none (at_hop 14 (no_queue (table_of table)) earlier (map hop_at entries)) ≡ every (is_queue table) entries
  unfolding at_hop is_none every
  every-queue earlier [] = refl
  every-queue earlier (e ∷ entries) = go (is_queue table e) (no-queue earlier e) (every-queue (hop_at e ∷ earlier) entries)
    where
      go : (b : Bool) → no_queue (table_of table) earlier (hop_at e) ≡ not b
          → is_none (at_hop 14 (no_queue (table_of table)) (hop_at e ∷ earlier) (map hop_at entries)) ≡ every (is_queue table) entries
          → is_none (at_hop 14 (no_queue (table_of table)) earlier (hop_at e ∷ map hop_at entries)) ≡ (b && every (is_queue table) entries)
      go true p more = simp p more
      go false p more = simp p

  -- Nothing is against 14 where each entry names a queue.
  pub all-queues : (entries : List ℕ) → is_none (at_hop 14 (no_queue (table_of table)) [] (map hop_at entries)) ≡ true → AllQueues table entries
  all-queues entries e = every-all (is_queue table) entries (sym (every-queue [] entries) ∙ e)

  -- 15 of two entries: the nodes where their links start and end.
  pub starts-elsewhere : (earlier : List Hop) (before here : ℕ) → is_queue table before ≡ true → is_queue table here ≡ true
      → starts_elsewhere (table_of table) (hop_at before ∷ earlier) (hop_at here) ≡ not (eqb (from_at table (link_in here)) (to_at table (link_in before)))
  unfolding starts_elsewhere hop_at start end link_at
  starts-elsewhere earlier before here p q = rw (link-found table (link_in here) (queue-within table here q).0, link-found table (link_in before) (queue-within table before p).0)

  -- The sum held against the deadline, entry by entry.
  pub delay-entries : (entries : List ℕ) → AllQueues table entries → path_delay (table_of table) (map hop_at entries) ≡ total (delay_at table) entries
  unfolding path_delay total
  delay-entries [] a = refl
  delay-entries (e ∷ entries) a =
      ap₂ (λ (x y : ℕ). x + y)
      (ap₂ (λ (x y : ℕ). x + y) (threshold-named table e a.0) (fixed_named table e a.0))
      (delay-entries entries a.1)

  -- Entry i of a path names a queue, so that its link and itself are in the table.
  module _ (entries : List ℕ) (a : AllQueues table entries) (few : link_count table ≤ links_most) (i : ℕ) (h : i < length entries) where
    here : is_queue table (get_or entries i 0) ≡ true
    here = all_get_d (λ e. is_queue table e ≡ true) entries i 0 a h

    pub link-low : link_in (get_or entries i 0) < links_most
    link-low = omega (arith, few, (queue-within table (get_or entries i 0) here).0)

    pub entry-low : get_or entries i 0 < queues_most
    entry-low = queue-low table (get_or entries i 0) here few
