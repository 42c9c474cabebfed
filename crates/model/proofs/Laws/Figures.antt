-- The figures with a flow more: at each queue, what the flow adds there and what the others have. On a link that its path crosses once that is one level.
-- The path is split at the hop; the shares before and after it add nothing at that link. Assumes nothing.
use Prim.Native.Nat.{ℕ, zero, suc, ◌+◌, ◌≤◌, ◌<◌, max}
use Rattle.std.specs.Prelude.{◌≡◌, Bool, true, false, cond, set, eqb}
use Rattle.std.proofs.Math.Path.{refl, ap, ap₂}
use Rattle.std.proofs.Common.{sym, ◌∙◌, add-zero, zero-add}
use mathlib.Core.List.{List, [], ◌∷◌, ◌++◌, append-nil}
use Rattle.std.proofs.Math.Option.{Option, none, some, some-ne-none, none-ne-some}
use native.Mathlib.Omega.{arith}
use Rattle.std.proofs.Math.ListN.{length}
use borrow.Author.Tests.{eqb-false, eq-eqb, ne_eqb}
use Rattle.model.specs.Words.{All}
use Rattle.model.specs.Total.{total, largest}
use Rattle.model.proofs.Laws.Total.{total-append, largest-append, total-zero, largest-zero}
use Rattle.model.proofs.Laws.Test.{or-neither}
use Rattle.model.proofs.Laws.Aggregates.{same-hop, hop-same, growth_sum, off-path}
use Rattle.model.proofs.Laws.LinkSteps.{Empty}
use Rattle.model.specs.Formula.{Aggregate}
use Rattle.model.specs.QueueTable.{Queue, Table}
use Rattle.model.specs.Orders.{Hop, Flow}
use Rattle.model.specs.Aggregates.{Share, source, grown, growth, queue_at, shares, all_shares, same_hop, adds_at, shares_at, aggregate_at, level_aggregates}
use Rattle.model.specs.Schedulable.{Named}
use Rattle.model.specs.WithFlow.{no_flow, together}
use Rattle.model.proofs.Laws.All.{append-all, all-imp}
use Rattle.model.specs.Reference.{Cause, crosses, at_hop, met_earlier}

-- The path crosses the link of the hop `h` there alone.
pub record Crossed (path before : List Hop) (h : Hop) (after : List Hop) : Type 0 where
  pub split : path ≡ before ++ h ∷ after
  pub before-off : crosses h.link before ≡ false
  pub after-off : crosses h.link after ≡ false

together-none : (a : Aggregate) → together no_flow a ≡ a
unfolding together no_flow
together-none a = λ i. record { rate = rate i; burst = burst i; frame = frame i }
  where
    rate : 0 + a.rate ≡ a.rate
    rate = omega arith

    burst : 0 + a.burst ≡ a.burst
    burst = omega arith

    frame : max 0 a.frame ≡ a.frame
    frame = omega arith

together-moved : (a b c : Aggregate) → together (together a b) c ≡ together b (together c a)
unfolding together
together-moved a b c = λ i. record { rate = rate i; burst = burst i; frame = frame i }
  where
    rate : a.rate + b.rate + c.rate ≡ b.rate + (c.rate + a.rate)
    rate = omega arith

    burst : a.burst + b.burst + c.burst ≡ b.burst + (c.burst + a.burst)
    burst = omega arith

    frame : max (max a.frame b.frame) c.frame ≡ max b.frame (max c.frame a.frame)
    frame = omega arith

module _ (q : Hop) where
  pub shares-nothing : (a : Aggregate) → together (shares_at q []) a ≡ a
  unfolding shares_at total largest no_flow
  shares-nothing a = together-none a

  shares-append : (l m : List Share) → shares_at q (l ++ m) ≡ together (shares_at q l) (shares_at q m)
  unfolding shares_at together
  shares-append l m =
      λ i. record { rate = total-append (adds_at q (λ a. a.rate)) l m i; burst = total-append (adds_at q (λ a. a.burst)) l m i; frame = largest-append (adds_at q (λ a. a.frame)) l m i }

  -- A share at another queue.
  pub shares-other : (x : Share) (es : List Share) → same_hop q x.hop ≡ false → shares_at q (x ∷ es) ≡ shares_at q es
  unfolding shares_at total largest adds_at together no_flow
  shares-other x es e = rw e (together-none (shares_at q es))

  -- A share at this queue, counted in there and then taken as done.
  pub shares-here : (x : Share) (es : List Share) (a : Aggregate) → same_hop q x.hop ≡ true
      → together (shares_at q (x ∷ es)) a ≡ together (shares_at q es) (together a x.adds)
  unfolding shares_at total largest adds_at together
  shares-here x es a e = rw e (together-moved x.adds (shares_at q es) a)

-- A share and those after it, of which none has the rate 0, add no rate, so that they add no frame.
none_here : (b : Bool) (rate frame : ℕ) {rates frames : ℕ} → 1 ≤ rate → (rates ≡ 0 → frames ≡ 0) → cond b rate 0 + rates ≡ 0 → max (cond b frame 0) frames ≡ 0
none_here true rate frame one later z = absurd (omega arith)
none_here false rate frame one later z = omega (arith, later (omega arith))

module _ (t : Table) where
  pub aggregate-alone : (f : Flow) (q : Hop) → aggregate_at t (f ∷ []) q ≡ shares_at q (shares t f 0 f.path)
  unfolding aggregate_at all_shares shares_at
  aggregate-alone f q = ap (shares_at q) (append-nil (shares t f 0 f.path))

  added : (f : Flow) (fs : List Flow) (q : Hop) → aggregate_at t (f ∷ fs) q ≡ together (shares_at q (shares t f 0 f.path)) (aggregate_at t fs q)
  unfolding aggregate_at all_shares shares_at
  added f fs q = shares-append q (shares t f 0 f.path) (all_shares t fs)

  -- The new flow's own aggregate and that of the others.
  pub aggregate-more : (f : Flow) (fs : List Flow) (q : Hop) → aggregate_at t (f ∷ fs) q ≡ together (aggregate_at t (f ∷ []) q) (aggregate_at t fs q)
  aggregate-more f fs q = added f fs q ∙ ap (λ (a : Aggregate). together a (aggregate_at t fs q)) (sym (aggregate-alone f q))

  -- The hops of a flow whose rate isn't 0 are at other queues, where they add no rate.
  pub shares-carried : (f : Flow) → 1 ≤ f.rate → (q : Hop) (sum : ℕ) (path : List Hop)
      → (shares_at q (shares t f sum path)).rate ≡ 0 → (shares_at q (shares t f sum path)).frame ≡ 0
  unfolding shares shares_at total largest adds_at
  shares-carried f one q sum [] z = refl
  shares-carried f one q sum (h ∷ path) z =
      none_here (same_hop q h) f.rate f.frame one (shares-carried f one q (sum + growth t h) path) z

  -- A queue whose rate sum is 0 has no largest frame, since no flow has the rate 0.
  pub carried : (fs : List Flow) → All (λ f. 1 ≤ f.rate) fs → (q : Hop) → (aggregate_at t fs q).rate ≡ 0 → (aggregate_at t fs q).frame ≡ 0
  unfolding shares_at aggregate_at all_shares total largest together
  carried [] a q z = refl
  carried (f ∷ fs) a q z =
      let rates = ap (λ (a : Aggregate). a.rate) (added f fs q) in
      let frames = ap (λ (a : Aggregate). a.frame) (added f fs q) in
      omega (arith, frames, shares-carried f a.0 q 0 f.path (omega (arith, rates)), carried fs a.1 q (omega (arith, rates)))

  shares-off : (f : Flow) (sum : ℕ) (q : Hop) (path : List Hop) → crosses q.link path ≡ false → shares_at q (shares t f sum path) ≡ no_flow
  unfolding shares_at no_flow
  shares-off f sum q path off =
      λ i. record {
        rate = total-zero (adds_at q (λ a. a.rate)) (shares t f sum path) (off-path t f q.link q.level (λ a. a.rate) sum path off) i;
        burst = total-zero (adds_at q (λ a. a.burst)) (shares t f sum path) (off-path t f q.link q.level (λ a. a.burst) sum path off) i;
        frame = largest-zero (adds_at q (λ a. a.frame)) (shares t f sum path) (off-path t f q.link q.level (λ a. a.frame) sum path off) i;
      }

  shares-split : (f : Flow) (sum : ℕ) (before after : List Hop)
      → shares t f sum (before ++ after) ≡ shares t f sum before ++ shares t f (sum + growth_sum t before) after
  unfolding shares growth_sum total
  shares-split f sum [] after = rw (add-zero sum)
  shares-split f sum (h ∷ before) after =
      let d : ℕ = growth t h in
      let e : sum + d + growth_sum t before ≡ sum + (d + growth_sum t before) = omega arith in
      ap₂ (λ (x : Share) (l : List Share). x ∷ l) refl
      (shares-split f (sum + d) before after ∙ ap (λ (n : ℕ). shares t f (sum + d) before ++ shares t f n after) e)

  module _ (f : Flow) (fs : List Flow) {before after : List Hop} {h : Hop} (c : Crossed f.path before h after) where
    sum : ℕ
    sum = growth_sum t before

    share : Share
    share = record { hop = h; adds = grown (source f) sum }

    after-shares : List Share
    after-shares = shares t f (sum + growth t h) after

    only : (p : ℕ) → let q : Hop = record { link = h.link; level = p } in
        aggregate_at t (f ∷ fs) q ≡ together (shares_at q (share ∷ after-shares)) (aggregate_at t fs q)
    unfolding shares sum share after-shares
    only p =
        let q : Hop = record { link = h.link; level = p } in
        let front : shares_at q (shares t f 0 f.path) ≡ shares_at q (share ∷ after-shares)
        = ap (λ (l : List Hop). shares_at q (shares t f 0 l)) c.split
        ∙ ap (shares_at q) (shares-split f 0 before (h ∷ after))
        ∙ shares-append q (shares t f 0 before) (shares t f (0 + growth_sum t before) (h ∷ after))
        ∙ ap (λ (a : Aggregate). together a (shares_at q (shares t f (0 + growth_sum t before) (h ∷ after)))) (shares-off f 0 q before c.before-off)
        ∙ together-none (shares_at q (shares t f (0 + growth_sum t before) (h ∷ after)))
        ∙ rw (zero-add (growth_sum t before)) in
        added f fs q ∙ ap (λ (a : Aggregate). together a (aggregate_at t fs q)) front

    other-level : (p : ℕ) → (p ≡ h.level → ⊥) → same_hop (record { link = h.link; level = p }) h ≡ false
    unfolding same_hop
    other-level p ne = rw (eq-eqb h.link h.link refl) (ne_eqb p h.level ne)

    after-off : (p : ℕ) → shares_at (record { link = h.link; level = p }) after-shares ≡ no_flow
    unfolding after-shares
    after-off p = shares-off f (sum + growth t h) (record { link = h.link; level = p }) after c.after-off

    -- The aggregate at the hop, with the flow's burst there.
    unfoldable pub counted : Aggregate
    counted = together (aggregate_at t fs h) (grown (source f) (growth_sum t before))

    at_level : aggregate_at t (f ∷ fs) h ≡ counted
    unfolding counted share sum
    at_level =
        only h.level
        ∙ shares-here h share after-shares (aggregate_at t fs h) (hop-same h h refl)
        ∙ ap (λ (a : Aggregate). together a counted) (after-off h.level)
        ∙ together-none counted

    beside : (p : ℕ) → (p ≡ h.level → ⊥) → let q : Hop = record { link = h.link; level = p } in aggregate_at t (f ∷ fs) q ≡ aggregate_at t fs q
    unfolding share
    beside p ne =
        let q : Hop = record { link = h.link; level = p } in
        only p
        ∙ ap (λ (a : Aggregate). together a (aggregate_at t fs q)) (shares-other q share after-shares (other-level p ne) ∙ after-off p)
        ∙ together-none (aggregate_at t fs q)

    levels-past : (n : ℕ) (qs : List Queue) → h.level < n → level_aggregates t (f ∷ fs) h.link n qs ≡ level_aggregates t fs h.link n qs
    unfolding level_aggregates
    levels-past n [] lt = refl
    levels-past n (q ∷ qs) lt = ap₂ (λ (a : Aggregate) (l : List Aggregate). a ∷ l) (beside n (omega arith)) (levels-past (suc n) qs (omega arith))

    -- The levels of the link from number `n` on: the flow is counted in at its own, `k` further.
    pub levels-more : (n k : ℕ) (qs : List Queue) → h.level ≡ n + k
        → level_aggregates t (f ∷ fs) h.link n qs ≡ set (level_aggregates t fs h.link n qs) k counted
    unfolding level_aggregates
    levels-more n k [] e = refl
    levels-more n zero (q ∷ qs) e =
        let own : n ≡ h.level = omega arith in
        ap₂ (λ (a : Aggregate) (l : List Aggregate). a ∷ l) (ap (λ (p : ℕ). aggregate_at t (f ∷ fs) (record { link = h.link; level = p })) own ∙ at_level) (levels-past (suc n) qs (omega arith))
    levels-more n (suc k) (q ∷ qs) e =
        ap₂ (λ (a : Aggregate) (l : List Aggregate). a ∷ l) (beside n (omega arith)) (levels-more (suc n) k qs (omega arith))

  -- Queues one after the other.
  pub levels-append : (fs : List Flow) (link n : ℕ) (qs more : List Queue)
      → level_aggregates t fs link n (qs ++ more) ≡ level_aggregates t fs link n qs ++ level_aggregates t fs link (n + length qs) more
  unfolding level_aggregates
  levels-append fs link n [] more = rw (add-zero n)
  levels-append fs link n (q ∷ qs) more =
      let e : suc n + length qs ≡ n + suc (length qs) = omega arith in
      ap₂ (λ (a : Aggregate) (l : List Aggregate). a ∷ l) refl
      (levels-append fs link (suc n) qs more ∙ ap (λ (m : ℕ). level_aggregates t fs link (suc n) qs ++ level_aggregates t fs link m more) e)

  pub levels-length : (fs : List Flow) (link n : ℕ) (qs : List Queue) → length (level_aggregates t fs link n qs) ≡ length qs
  unfolding level_aggregates
  levels-length fs link n [] = refl
  levels-length fs link n (q ∷ qs) = ap suc (levels-length fs link (suc n) qs)

  pub levels-empty : (fs : List Flow) (link n : ℕ) (qs : List Queue)
      → ((p : ℕ) → n ≤ p → aggregate_at t fs (record { link = link; level = p }) ≡ no_flow)
      → Empty (level_aggregates t fs link n qs)
  unfolding level_aggregates
  levels-empty fs link n [] z = tt
  levels-empty fs link n (q ∷ qs) z = (z n (omega arith), levels-empty fs link (suc n) qs (λ p le. z p (omega arith)))

  -- Flows that add nothing at a queue.
  aggregate-none : (q : Hop) (fs : List Flow) → All (λ f. shares_at q (shares t f 0 f.path) ≡ no_flow) fs → aggregate_at t fs q ≡ no_flow
  unfolding shares_at aggregate_at all_shares total largest no_flow
  aggregate-none q [] a = refl
  aggregate-none q (f ∷ fs) a =
      added f fs q
      ∙ ap (λ (x : Aggregate). together x (aggregate_at t fs q)) a.0
      ∙ together-none (aggregate_at t fs q)
      ∙ aggregate-none q fs a.1

  -- No path crosses the link of the queue.
  pub aggregate-uncrossed : (q : Hop) (fs : List Flow) → All (λ f. crosses q.link f.path ≡ false) fs → aggregate_at t fs q ≡ no_flow
  aggregate-uncrossed q fs a = aggregate-none q fs (all-imp fs (λ f off. shares-off f 0 q f.path off) a)

  -- No flow has a hop where the table has no queue.
  module _ (q : Hop) (missing : queue_at t q ≡ none) where
    unnamed : (h : Hop) → Named t h → same_hop q h ≡ false
    unnamed h n = go (same_hop q h) refl
      where
        go : (b : Bool) → same_hop q h ≡ b → same_hop q h ≡ false
        go false e = e
        go true e = absurd (none-ne-some _ (sym missing ∙ ap (queue_at t) (same-hop q h e) ∙ n.found))

    shares-unnamed : (f : Flow) (sum : ℕ) (path : List Hop) → All (Named t) path → shares_at q (shares t f sum path) ≡ no_flow
    unfolding shares shares_at total largest no_flow
    shares-unnamed f sum [] a = refl
    shares-unnamed f sum (h ∷ path) a =
        shares-other q _ (shares t f (sum + growth t h) path) (unnamed h a.0)
        ∙ shares-unnamed f (sum + growth t h) path a.1

    pub aggregate-unnamed : (fs : List Flow) → All (λ f. All (Named t) f.path) fs → aggregate_at t fs q ≡ no_flow
    aggregate-unnamed fs a = aggregate-none q fs (all-imp fs (λ f n. shares-unnamed f 0 f.path n) a)

-- No hop of the path is on a link met earlier (16).
module _ (code : ℕ) where
  found_none : (b : Bool) (c : Cause) (o : Option Cause) → cond b (some c) o ≡ none → (b ≡ false) × (o ≡ none)
  found_none true c o e = absurd (some-ne-none _ e)
  found_none false c o e = (refl, e)

  unmet : (earlier path : List Hop) → at_hop code met_earlier earlier path ≡ none → All (λ h. crosses h.link earlier ≡ false) path
  unfolding at_hop met_earlier crosses
  unmet earlier [] e = tt
  unmet earlier (h ∷ path) e =
      let (here, later) = found_none (crosses h.link earlier) _ (at_hop code met_earlier (h ∷ earlier) path) e in
      (here, all-imp path (λ x m. (or-neither (eqb h.link x.link) (crosses x.link earlier) m).1) (unmet (h ∷ earlier) path later))

  later-off : (h : Hop) (earlier path : List Hop) → All (λ x. crosses x.link (h ∷ earlier) ≡ false) path → crosses h.link path ≡ false
  unfolding crosses
  later-off h earlier [] a = refl
  later-off h earlier (x ∷ path) a =
      let other = (or-neither (eqb h.link x.link) (crosses x.link earlier) a.0).0 in
      rw (ne_eqb x.link h.link (λ e. eqb-false h.link x.link other (sym e))) (later-off h earlier path a.1)

  both-off : (earlier before : List Hop) (h : Hop) (after : List Hop) → at_hop code met_earlier earlier (before ++ h ∷ after) ≡ none
      → (crosses h.link before ≡ false) × (crosses h.link after ≡ false)
  unfolding at_hop met_earlier crosses
  both-off earlier [] h after e =
      (refl, later-off h earlier after (unmet (h ∷ earlier) after (found_none (crosses h.link earlier) _ _ e).1))
  both-off earlier (x ∷ before) h after e =
      let rest = (found_none (crosses x.link earlier) _ _ e).1 in
      let met = (append-all (λ y. crosses y.link (x ∷ earlier) ≡ false) before (h ∷ after) (unmet (x ∷ earlier) (before ++ h ∷ after) rest)).1.0 in
      let off = both-off (x ∷ earlier) before h after rest in
      (rw (or-neither (eqb x.link h.link) (crosses h.link earlier) met).0 off.0, off.1)

  pub crossed : (before : List Hop) (h : Hop) (after : List Hop) {path : List Hop} → path ≡ before ++ h ∷ after → at_hop code met_earlier [] path ≡ none
      → Crossed path before h after
  crossed before h after e none-met =
      let off = both-off [] before h after (sym (ap (at_hop code met_earlier []) e) ∙ none-met) in
      record { split = e; before-off = off.0; after-off = off.1 }
