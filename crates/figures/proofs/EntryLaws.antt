-- Hop entries told apart, and a path taken hop by hop.
-- Assumes nothing.
use Prim.Native.Nat.{ℕ, ◌+◌, ◌*◌, ◌≤◌, ◌<◌}
use mathlib.Core.Path.{◌≡◌, refl, sym, ap, ap₂, ◌∙◌}
use mathlib.Core.Bool.{Bool, true, false}
use mathlib.Core.List.{List, ◌∷◌}
use native.Mathlib.Nat.{div-add-mod, mul-le-mul}
use native.Mathlib.Omega.{arith}
use lib.Arith.{digits_div, digits_mod}
use lib.ListN.{length, get_or, drop}
use Rattle.model.proofs.Laws.All.{all_get_d}
use Rattle.model.specs.Sizes.{levels_most, queues_most, thresholds_most}
use Rattle.model.specs.Formula.{Aggregate, hop_growth, burst_at_hop}
use Rattle.model.proofs.Laws.Formula.{ceil_div-le}
use Rattle.model.specs.QueueTable.{Table}
use Rattle.model.specs.Aggregates as model
use Rattle.model.specs.Aggregates.{shares_at}
use Rattle.model.specs.WithFlow.{together}
use Rattle.model.specs.Orders.{Hop, Flow}
use Rattle.model.proofs.Laws.Aggregates.{same-hop, hop-same}
use Rattle.model.proofs.Laws.Figures.{shares-nothing, shares-other, shares-here, aggregate-alone, aggregate-more}
use Rattle.units.specs.View.{AtSource}
use Rattle.queue_table.specs.View.{entry_at, table_of, hop_at, is_queue, AllQueues}
use Rattle.figures.specs.View.{growth_at, LimitedShare, Hops, FlowOf}
use Rattle.queue_table.proofs.EntryLaws.{threshold-named, speed-named}
use Rattle.link_check.proofs.Laws.{mapped_next, mapped_end}

-- Two entries that name one queue are equal.
pub other-entry : (d e : ℕ) → (d ≡ e → ⊥) → model.same_hop (hop_at d) (hop_at e) ≡ false
unfolding hop_at
other-entry d e ne = go (model.same_hop (hop_at d) (hop_at e)) refl
  where
    go : (b : Bool) → model.same_hop (hop_at d) (hop_at e) ≡ b → model.same_hop (hop_at d) (hop_at e) ≡ false
    go false q = q
    go true q =
        let same : hop_at d ≡ hop_at e = same-hop (hop_at d) (hop_at e) q in
        absurd (ne (omega (arith, ap (λ (h : Hop). h.link) same, ap (λ (h : Hop). h.level) same, div-add-mod d levels_most, div-add-mod e levels_most)))

-- The entry of a link and a level, both counted from 0.
pub entry-hop : (link p : ℕ) → p < levels_most → hop_at (entry_at link p) ≡ record { link = link + 1; level = p + 1 }
unfolding hop_at
entry-hop link p h =
    let e : entry_at link p ≡ link * levels_most + p = omega arith in
    rw e (λ i. record { link = digits_div link h i + 1; level = digits_mod link h i + 1 })

-- What a queue of the table adds to S is what the model says.
pub growth-named : (table : List ℕ) (e : ℕ) → is_queue table e ≡ true → model.growth (table_of table) (hop_at e) ≡ growth_at table e
unfolding growth_at
growth-named table e named = ap₂ hop_growth (threshold-named table e named) (speed-named table e named)

-- The hop at `i` and what it adds to S, which is `sum` over those before it.
abbrev pub HopAt : (table entries : List ℕ) (sum i : ℕ) → Type 0
HopAt table entries sum i = (get_or entries i 0 < queues_most) × (growth_at table (get_or entries i 0) ≤ 100000) × (sum ≤ thresholds_most)

pub hop-at : {table entries : List ℕ} {sum i : ℕ} → Hops table entries → sum ≤ i * 100000 → i < length entries → HopAt table entries sum i
hop-at {table} {entries} {sum} {i} hops below more =
    let hop = all_get_d (λ e. (e < queues_most) × (growth_at table e ≤ 100000)) entries i 0 hops.each more in
    (hop.0, hop.1, omega (arith, hops.few))

-- What the hops of a flow from `i` on add at queue `e`, where S over those before them is `sum`.
abbrev pub left_at : (table : List ℕ) (f : Flow) (sum i e : ℕ) → Aggregate
left_at table f sum i e = shares_at (hop_at e) (model.shares (table_of table) f sum (drop i f.path))

-- Before the first hop.
pub left-whole : (table : List ℕ) (f : Flow) (fs : List Flow) (e : ℕ)
    → model.aggregate_at (table_of table) (f ∷ fs) (hop_at e) ≡ together (left_at table f 0 0 e) (model.aggregate_at (table_of table) fs (hop_at e))
left-whole table f fs e =
    let t : Table = table_of table in
    aggregate-more t f fs (hop_at e) ∙ ap (λ a. together a (model.aggregate_at t fs (hop_at e))) (aggregate-alone t f (hop_at e))

module _ {share : Aggregate} {entries : List ℕ} {f : Flow} (is : FlowOf share entries f) (table : List ℕ) (sum i : ℕ) where
  -- Past the last hop.
  pub left-none : length entries ≤ i → (e : ℕ) (a : Aggregate) → together (left_at table f sum i e) a ≡ a
  unfolding model.shares
  left-none end e a =
      ap (λ l. together (shares_at (hop_at e) (model.shares (table_of table) f sum l)) a) (ap (drop i) is.path-is ∙ mapped_end hop_at entries i end)
      ∙ shares-nothing (hop_at e) a

  module _ (named : AllQueues table entries) (more : i < length entries) where
    abbrev x : ℕ
    x = get_or entries i 0

    abbrev here : model.Share
    here = record { hop = hop_at x; adds = model.grown share sum }

    abbrev later : List model.Share
    later = model.shares (table_of table) f (sum + growth_at table x) (drop (i + 1) f.path)

    shares-next : model.shares (table_of table) f sum (drop i f.path) ≡ here ∷ later
    unfolding model.shares
    shares-next =
        let hops : drop i f.path ≡ hop_at x ∷ drop (i + 1) f.path
        = ap (drop i) is.path-is ∙ mapped_next hop_at entries i 0 more ∙ ap (λ l. hop_at x ∷ drop (i + 1) l) (sym is.path-is) in
        ap (model.shares (table_of table) f sum) hops
        ∙ ap₂ (λ (a : Aggregate) (g : ℕ). record { hop = hop_at x; adds = model.grown a sum } ∷ model.shares (table_of table) f (sum + g) (drop (i + 1) f.path)) is.is
        (growth-named table x (all_get_d (λ e. is_queue table e ≡ true) entries i 0 named more))

    -- At the queue of the hop at `i`: its share there, and what the hops after it add.
    pub left_here : (a : Aggregate)
        → together (left_at table f sum i x) a ≡ together (left_at table f (sum + growth_at table x) (i + 1) x) (together a (model.grown share sum))
    left_here a =
        ap (λ l. together (shares_at (hop_at x) l) a) shares-next ∙ shares-here (hop_at x) here later a (hop-same (hop_at x) (hop_at x) refl)

    -- At every other queue the hop adds nothing.
    pub left_other : (e : ℕ) → (e ≡ x → ⊥) → left_at table f sum i e ≡ left_at table f (sum + growth_at table x) (i + 1) e
    left_other e other = ap (shares_at (hop_at e)) shares-next ∙ shares-other (hop_at e) here later (other-entry e x other)

-- A share at a hop, in the ranges of document 01.
pub share-limited : {share : Aggregate} {sum : ℕ} → AtSource share → sum ≤ thresholds_most → LimitedShare (model.grown share sum)
unfolding burst_at_hop
share-limited {share} {sum} source s =
    let product : share.rate * sum ≤ 10000000 * thresholds_most = mul-le-mul {n₂ = 10000000} {m₂ = thresholds_most} source.0 s in
    (source.0, omega (arith, source.1, ceil_div-le (share.rate * sum) 8000 1500000000 (omega arith) (omega arith)), source.2)
