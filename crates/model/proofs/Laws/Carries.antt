-- A queue's largest frame isn't 0 exactly when a flow has a hop there: flow by flow, hop by hop. Assumes nothing.
use Rattle.std.specs.Prelude.{ℕ, zero, suc, ◌+◌, ◌≤◌, max, ◌≡◌, Bool, ◌⊎◌}
use Rattle.std.proofs.Math.Path.{refl, subst}
use Rattle.std.proofs.Common.{sym, inl, inr, not-suc-le-zero, le_of_eq}
use Rattle.std.proofs.Math.Bool.{true, false, cond}
use Rattle.std.proofs.Math.Logic.{⊎_elim}
use mathlib.Core.List.{List, [], ◌∷◌, Memᴰ}
use Rattle.std.proofs.Math.Nat.{le_trans, le-max_left}
use native.Mathlib.Omega.{arith}
use Rattle.model.specs.Words.{All}
use Rattle.model.specs.Total.{largest}
use Rattle.model.proofs.Laws.Total.{largest-append}
use Rattle.model.specs.Formula.{Aggregate}
use Rattle.model.specs.QueueTable.{Table}
use Rattle.model.specs.Orders.{Hop, Flow}
use Rattle.model.specs.Aggregates.{Share, growth, shares, all_shares, same_hop, adds_at, shares_at, aggregate_at}
use Rattle.model.proofs.Laws.All.{all-member}
use Rattle.model.proofs.Laws.Aggregates.{same-hop, hop-same}
use Rattle.model.specs.Admissible.{Carries}

one-positive : (a b : ℕ) → 1 ≤ max a b → (1 ≤ a) ⊎ (1 ≤ b)
one-positive zero b h = inr (omega arith)
one-positive (suc a) b h = inl (omega arith)

module _ (t : Table) (q : Hop) where
  abbrev frame_at : Share → ℕ
  frame_at = adds_at q (λ a. a.frame)

  -- A hop that adds something is at the queue.
  here : (h : Hop) (a : Aggregate) → 1 ≤ frame_at (record { hop = h; adds = a }) → q ≡ h
  unfolding adds_at
  here h a = go (same_hop q h) refl
    where
      go : (b : Bool) → same_hop q h ≡ b → 1 ≤ cond b a.frame 0 → q ≡ h
      go true e p = same-hop q h e
      go false e p = absurd (not-suc-le-zero p)

  on-path : (f : Flow) (sum : ℕ) (path : List Hop) → 1 ≤ largest frame_at (shares t f sum path) → Memᴰ q path
  unfolding largest shares
  on-path f sum [] p = absurd (not-suc-le-zero p)
  on-path f sum (h ∷ path) p =
      ⊎_elim
      (λ a. Memᴰ.head (here h _ a))
      (λ b. Memᴰ.tail (on-path f (sum + growth t h) path b))
      (one-positive _ _ p)

  some-flow : (fs : List Flow) → 1 ≤ largest frame_at (all_shares t fs) → Carries fs q
  unfolding largest all_shares
  some-flow [] p = absurd (not-suc-le-zero p)
  some-flow (f ∷ fs) p =
      ⊎_elim
      (λ a. record { flow = f; among = Memᴰ.head refl; hop = on-path f 0 f.path a })
      (λ b. let c = some-flow fs b in record { flow = c.flow; among = Memᴰ.tail c.among; hop = c.hop })
      (one-positive _ _ (subst (λ n. 1 ≤ n) (largest-append frame_at (shares t f 0 f.path) (all_shares t fs)) p))

  pub frame-carries : (fs : List Flow) → 1 ≤ (aggregate_at t fs q).frame → Carries fs q
  unfolding shares_at aggregate_at
  frame-carries fs p = some-flow fs p

  -- A hop at the queue adds its flow's largest frame.
  there : (h : Hop) (a : Aggregate) → q ≡ h → frame_at (record { hop = h; adds = a }) ≡ a.frame
  unfolding adds_at
  there h a e = rw (hop-same q h e)

  path-frame : (f : Flow) (sum : ℕ) {path : List Hop} → Memᴰ q path → f.frame ≤ largest frame_at (shares t f sum path)
  unfolding largest shares
  path-frame f sum (Memᴰ.head {x = h} e) = le_trans (le_of_eq (sym (there h _ e))) (le-max_left _ _)
  path-frame f sum (Memᴰ.tail {x = h} m) = omega (arith, path-frame f (sum + growth t h) m)

  pub flow-frame : (f : Flow) {fs : List Flow} → Memᴰ f fs → Memᴰ q f.path → f.frame ≤ largest frame_at (all_shares t fs)
  unfolding largest all_shares
  flow-frame f (Memᴰ.head {x = g} {xs = fs} e) m =
      omega (
        arith,
        subst (λ (g : Flow). f.frame ≤ largest frame_at (shares t g 0 g.path)) e (path-frame f 0 m),
        largest-append frame_at (shares t g 0 g.path) (all_shares t fs),
      )
  flow-frame f (Memᴰ.tail {x = g} {xs = fs} k) m =
      omega (arith, flow-frame f k m, largest-append frame_at (shares t g 0 g.path) (all_shares t fs))

  pub carries-frame : (fs : List Flow) → All (λ f. 1 ≤ f.frame) fs → Carries fs q → 1 ≤ (aggregate_at t fs q).frame
  unfolding shares_at aggregate_at
  carries-frame fs a c = le_trans (all-member (λ f. 1 ≤ f.frame) a c.among) (flow-frame c.flow c.among c.hop)
