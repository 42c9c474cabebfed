-- The searches over a path and over its entries: one hop on, the cause at a hop that is found, and none past the end.
-- By the model's laws of a search. Assumes nothing.
use Prim.Native.Nat.{ℕ, zero, suc, ◌+◌, ◌-◌, ◌≤◌, ◌<◌}
use mathlib.Core.Path.{◌≡◌, refl, sym, ap, ◌∙◌}
use mathlib.Core.Bool.{Bool, true, false, ◌||◌}
use mathlib.Core.List.{List, [], ◌∷◌, map, reverse}
use mathlib.Core.Option.{none, some}
use native.Mathlib.Omega.{arith}
use lib.ListN.{length, get_or, take, length-map, get_or-map}
use lib.Seq.{get_or-take, length-take-le}
use lib.Dec.{eqb}
use Rattle.model.specs.Orders.{Hop}
use Rattle.model.specs.Reference.{at_hop, crosses, starts_elsewhere}
use Rattle.model.proofs.Laws.Path.{reverse-take, search_from, search-on, search-found, search-ended}
use Rattle.queue_table.specs.declared.access.Hop as queues
use Rattle.orders.specs.View.{hops_in, hop_in, line_path}
use Rattle.orders.proofs.PathLaws.{hops-long, hops-at}
use Rattle.queue_table.specs.View.{table_of, link_in, level_in, hop_at}
use Rattle.path_check.specs.View.{hop_cause, earlier_than}
use Rattle.path_check.proofs.EntryLaws.{crosses-entry}

module _ (code : ℕ) where
  -- The cause at a hop of the path.
  pub cause-at : (path : List Hop) (i : ℕ) (d : Hop) → i < length path
      → hop_cause code path i ≡ some (record { code = code; link = (get_or path i d).link; level = (get_or path i d).level })
  unfolding hop_cause
  cause-at [] i d h = absurd (omega arith)
  cause-at (x ∷ path) zero d h = refl
  cause-at (x ∷ path) (suc i) d h = cause-at path i d (omega arith)

module _ (code : ℕ) (test : List Hop → Hop → Bool) (path : List Hop) where
  pub found_at : (i : ℕ) (d : Hop) → i < length path → test (reverse (take i path)) (get_or path i d) ≡ true
      → search_from code test path i ≡ hop_cause code path i
  found_at i d h e = search-found code test path i d h e ∙ sym (cause-at code path i d h)

-- A path of entries.
module _ (entries : List ℕ) where
  pub map-long : length (map hop_at entries) ≡ length entries
  map-long = length-map entries hop_at

  pub hop-of : (i : ℕ) → get_or (map hop_at entries) i (hop_at 0) ≡ hop_at (get_or entries i 0)
  hop-of i = get_or-map hop_at entries i 0

  pub entry-cause : (code i : ℕ) → i < length entries
      → hop_cause code (map hop_at entries) i ≡ some (record { code = code; link = link_in (get_or entries i 0) + 1; level = level_in (get_or entries i 0) + 1 })
  unfolding hop_at
  entry-cause code i h =
      cause-at code (map hop_at entries) i (hop_at 0) (omega (arith, map-long))
      ∙ ap (λ (x : Hop). some (record { code = code; link = x.link; level = x.level })) (hop-of i)

  module _ (code : ℕ) (test : List Hop → Hop → Bool) (i : ℕ) where
    pub entry-passed : i < length entries → test (earlier_than entries i) (hop_at (get_or entries i 0)) ≡ false
        → search_from code test (map hop_at entries) i ≡ search_from code test (map hop_at entries) (i + 1)
    entry-passed h e =
        search-on code test (map hop_at entries) i (hop_at 0) (omega (arith, map-long)) (ap (test (earlier_than entries i)) (hop-of i) ∙ e)

    pub entry_found : i < length entries → test (earlier_than entries i) (hop_at (get_or entries i 0)) ≡ true
        → search_from code test (map hop_at entries) i ≡ hop_cause code (map hop_at entries) i
    entry_found h e =
        found_at code test (map hop_at entries) i (hop_at 0) (omega (arith, map-long)) (ap (test (earlier_than entries i)) (hop-of i) ∙ e)

    pub none_found : length entries ≤ i → search_from code test (map hop_at entries) i ≡ none
    none_found h = search-ended code test (map hop_at entries) i (omega (arith, map-long))

  -- The hops before hop i + 1, the nearest first.
  earlier-next : (i : ℕ) → i < length entries → earlier_than entries (i + 1) ≡ hop_at (get_or entries i 0) ∷ earlier_than entries i
  earlier-next i h =
      reverse-take (map hop_at entries) i (hop_at 0) (omega (arith, map-long)) ∙ ap (λ (x : Hop). x ∷ earlier_than entries i) (hop-of i)

  pub crosses-next : (link i : ℕ) → i < length entries
      → crosses (link + 1) (earlier_than entries (i + 1)) ≡ (eqb (link_in (get_or entries i 0)) link || crosses (link + 1) (earlier_than entries i))
  crosses-next link i h =
      ap (crosses (link + 1)) (earlier-next i h) ∙ crosses-entry link (get_or entries i 0) (earlier_than entries i)

  -- The hop before is all that 15 reads of the earlier ones.
  pub starts-nearest : (table : List ℕ) (i : ℕ) → 0 < i → i < length entries
      → starts_elsewhere (table_of table) (earlier_than entries i) (hop_at (get_or entries i 0))
      ≡ starts_elsewhere (table_of table) (hop_at (get_or entries (i - 1) 0) ∷ []) (hop_at (get_or entries i 0))
  unfolding starts_elsewhere
  starts-nearest table i pos h =
      let e : i - 1 + 1 ≡ i = omega arith in
      ap (λ (before : List Hop). starts_elsewhere (table_of table) before (hop_at (get_or entries i 0))) (rw e at (earlier-next (i - 1) (omega arith)))

-- The first hop starts where it may.
pub starts-first : (table entries : List ℕ)
    → at_hop 15 (starts_elsewhere (table_of table)) [] (map hop_at entries) ≡ search_from 15 (starts_elsewhere (table_of table)) (map hop_at entries) 1
unfolding at_hop starts_elsewhere
starts-first table [] = refl
starts-first table (e ∷ entries) = refl

-- The path of an order line.
module _ (hops : List queues.Hop) (count : ℕ) (few : count ≤ length hops) where
  pub path-long : length (line_path hops count) ≡ count
  path-long = length-take-le count (hops_in hops) (omega (arith, hops-long hops))

  pub path-hop : (i : ℕ) (d : Hop) → i < count → get_or (line_path hops count) i d ≡ hop_in hops i
  path-hop i d h = get_or-take count (hops_in hops) i d h ∙ hops-at hops i d (omega arith)

  pub line-cause : (code i : ℕ) → i < count
      → hop_cause code (line_path hops count) i ≡ some (record { code = code; link = (hop_in hops i).link; level = (hop_in hops i).level })
  line-cause code i h =
      cause-at code (line_path hops count) i (hop_in hops i) (omega (arith, path-long))
      ∙ ap (λ (x : Hop). some (record { code = code; link = x.link; level = x.level })) (path-hop i (hop_in hops i) h)
