-- The aggregates of a part of the flows are at most those of all, in another order they are the same, and a flow that doesn't cross a link adds nothing there.
-- The shares of all flows are the flows' own shares one after the other, so the laws of sums apply flow by flow. Assumes nothing.
use Prim.Native.Nat.{ℕ, suc, ◌+◌, ◌≤◌, max}
use Rattle.std.specs.Prelude.{◌≡◌, true, false, eqb}
use Rattle.std.proofs.Math.Path.{refl, ap}
use Rattle.std.proofs.Common.{sym, ◌∙◌, arith}
use mathlib.Core.List.Permᴰ
use mathlib.Core.List.{List, [], ◌∷◌, ◌++◌, Permᴰ}
use borrow.Author.Tests.{eqb-true, eqb-false, eq-eqb, ne_eqb}
use Rattle.model.specs.Words.{Pairs, ends, pair, All}
use Rattle.model.specs.Total.{total, largest}
use Rattle.model.specs.Part.{Part}
use Rattle.model.proofs.Laws.Part.{perm-part}
use Rattle.model.proofs.Laws.Total.{total-append, largest-append, total-part, largest-part, total-zero, largest-zero}
use Rattle.model.specs.Formula.{Aggregate}
use Rattle.model.proofs.Laws.Formula.{AtMost}
use Rattle.model.specs.QueueTable.{Queue, Table}
use Rattle.model.specs.Orders.{Hop, Flow}
use Rattle.model.specs.Aggregates.{Share, growth, shares, all_shares, same_hop, adds_at, shares_at, aggregate_at, level_aggregates}
use Rattle.model.proofs.Laws.Test.{and_both, both-and, or-neither}
use Rattle.model.specs.Reference.{crosses}

pub same-hop : (q h : Hop) → same_hop q h ≡ true → q ≡ h
unfolding same_hop
same-hop q h e =
    let (link, level) = and_both (eqb q.link h.link) (eqb q.level h.level) e in
    λ i. record { link = eqb-true q.link h.link link i; level = eqb-true q.level h.level level i }

pub hop-same : (q h : Hop) → q ≡ h → same_hop q h ≡ true
unfolding same_hop
hop-same q h e = both-and (eq-eqb q.link h.link (ap (λ h. h.link) e)) (eq-eqb q.level h.level (ap (λ h. h.level) e))

-- S past the hops of a path: what they add to it, summed.
unfoldable pub growth_sum : Table → List Hop → ℕ
growth_sum t path = total (growth t) path

module _ (t : Table) where
  -- Flow by flow.
  total-all : (m : Share → ℕ) (fs : List Flow) → total m (all_shares t fs) ≡ total (λ f. total m (shares t f 0 f.path)) fs
  unfolding total all_shares
  total-all m [] = refl
  total-all m (f ∷ fs) = total-append m (shares t f 0 f.path) (all_shares t fs) ∙ ap (λ n. total m (shares t f 0 f.path) + n) (total-all m fs)

  largest-all : (m : Share → ℕ) (fs : List Flow) → largest m (all_shares t fs) ≡ largest (λ f. largest m (shares t f 0 f.path)) fs
  unfolding largest all_shares
  largest-all m [] = refl
  largest-all m (f ∷ fs) =
      largest-append m (shares t f 0 f.path) (all_shares t fs) ∙ ap (λ n. max (largest m (shares t f 0 f.path)) n) (largest-all m fs)

  pub aggregate-part : {part fs : List Flow} → Part part fs → (q : Hop) → AtMost (aggregate_at t part q) (aggregate_at t fs q)
  unfolding shares_at aggregate_at
  aggregate-part {part} {fs} p q = record { rate = sum (λ a. a.rate); burst = sum (λ a. a.burst); frame = most (λ a. a.frame) }
    where
      sum : (m : Aggregate → ℕ) → total (adds_at q m) (all_shares t part) ≤ total (adds_at q m) (all_shares t fs)
      sum m = rw (total-all (adds_at q m) part, total-all (adds_at q m) fs) (total-part _ p)

      most : (m : Aggregate → ℕ) → largest (adds_at q m) (all_shares t part) ≤ largest (adds_at q m) (all_shares t fs)
      most m = rw (largest-all (adds_at q m) part, largest-all (adds_at q m) fs) (largest-part _ p)

  -- In another order they are the same.
  pub aggregate-perm : {fs fs' : List Flow} → Permᴰ fs fs' → (q : Hop) → aggregate_at t fs q ≡ aggregate_at t fs' q
  aggregate-perm {fs} {fs'} p q =
      λ i. record { rate = same (λ a. a.rate) most.rate least.rate i; burst = same (λ a. a.burst) most.burst least.burst i; frame = same (λ a. a.frame) most.frame least.frame i }
    where
      most : AtMost (aggregate_at t fs q) (aggregate_at t fs' q)
      most = aggregate-part (perm-part p) q

      least : AtMost (aggregate_at t fs' q) (aggregate_at t fs q)
      least = aggregate-part (perm-part (Permᴰ.symm p)) q

      same : (m : Aggregate → ℕ) → m (aggregate_at t fs q) ≤ m (aggregate_at t fs' q) → m (aggregate_at t fs' q) ≤ m (aggregate_at t fs q)
          → m (aggregate_at t fs q) ≡ m (aggregate_at t fs' q)
      same m h k = omega arith

  -- What holds of the aggregates at each queue of a link holds level by level.
  pub level-pairs : (fs fs' : List Flow) (link : ℕ)
      → ((p : ℕ) → AtMost (aggregate_at t fs (record { link = link; level = p })) (aggregate_at t fs' (record { link = link; level = p })))
      → (n : ℕ) (qs : List Queue)
      → Pairs AtMost (level_aggregates t fs link n qs) (level_aggregates t fs' link n qs)
  unfolding level_aggregates
  level-pairs fs fs' link h n [] = ends
  level-pairs fs fs' link h n (q ∷ qs) = pair (h n) (level-pairs fs fs' link h (suc n) qs)

  module _ (f : Flow) (link p : ℕ) (m : Aggregate → ℕ) where
    -- A share at another link.
    off-hop : (h : Hop) (a : Aggregate) → eqb h.link link ≡ false
        → adds_at (record { link = link; level = p }) m (record { hop = h; adds = a }) ≡ 0
    unfolding adds_at same_hop
    off-hop h a e = rw (ne_eqb link h.link (λ q. eqb-false h.link link e (sym q)))

    pub off-path : (sum : ℕ) (path : List Hop) → crosses link path ≡ false
        → All (λ e. adds_at (record { link = link; level = p }) m e ≡ 0) (shares t f sum path)
    unfolding shares crosses
    off-path sum [] e = tt
    off-path sum (h ∷ path) e =
        let (here, later) = or-neither (eqb h.link link) (crosses link path) e in
        (off-hop h _ here, off-path (sum + growth t h) path later)

  pub aggregate-off : (f : Flow) (fs : List Flow) (link p : ℕ) → crosses link f.path ≡ false
      → AtMost (aggregate_at t (f ∷ fs) (record { link = link; level = p })) (aggregate_at t fs (record { link = link; level = p }))
  unfolding shares_at aggregate_at all_shares
  aggregate-off f fs link p off = record { rate = sum (λ a. a.rate); burst = sum (λ a. a.burst); frame = most (λ a. a.frame) }
    where
      q : Hop
      q = record { link = link; level = p }

      sum : (m : Aggregate → ℕ) → total (adds_at q m) (shares t f 0 f.path ++ all_shares t fs) ≤ total (adds_at q m) (all_shares t fs)
      sum m =
          omega (
            arith,
            total-append (adds_at q m) (shares t f 0 f.path) (all_shares t fs),
            total-zero (adds_at q m) (shares t f 0 f.path) (off-path f link p m 0 f.path off),
          )

      most : (m : Aggregate → ℕ) → largest (adds_at q m) (shares t f 0 f.path ++ all_shares t fs) ≤ largest (adds_at q m) (all_shares t fs)
      most m =
          omega (
            arith,
            largest-append (adds_at q m) (shares t f 0 f.path) (all_shares t fs),
            largest-zero (adds_at q m) (shares t f 0 f.path) (off-path f link p m 0 f.path off),
          )
