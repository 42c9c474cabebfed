-- The loop that takes a flow out hop by hop: the figures so far are those of the others and of what the hops left add.
-- Assumes nothing.
use Prim.Native.Nat.{ℕ, ◌+◌, ◌*◌, ◌-◌, ◌≤◌, ◌<◌, max}
use mathlib.Core.Path.{◌≡◌, refl, sym, ap, subst, ◌∙◌}
use mathlib.Core.Bool.{Bool, true, false, ◌||◌, true≢false}
use mathlib.Core.Logic.{◌⊎◌, inl, inr, ⊎_elim}
use mathlib.Core.List.{List, ◌∷◌}
use native.Mathlib.Omega.{arith}
use native.Mathlib.Decide.{ℕ_discrete}
use lib.ListN.{length, get_or, set, drop}
use lib.Seq.{get_or-set_same, get_or-set_other}
use Rattle.model.specs.Words.{All}
use Rattle.model.specs.Sizes.{queues_most}
use Rattle.model.specs.Orders.{Flow}
use Rattle.model.specs.Formula.{Aggregate}
use Rattle.model.specs.QueueTable.{Table}
use Rattle.model.specs.Aggregates as model
use Rattle.model.specs.WithFlow.{together}
use Rattle.model.proofs.Laws.All.{all_get_d}
use Rattle.model.proofs.Laws.Figures.{shares-carried}
use Rattle.queue_table.specs.View.{table_of, hop_at, AllQueues}
use Rattle.figures.specs.View.{own_numbers, burst_position, frame_position, figure_numbers, figure_at, growth_at, figure_stored, FlowOf, Figures, PathCounted, Carried, FrameLeft, no_flow, unknown, another, HopRemoved, Once, PathRemoved, Near}
use Rattle.figures.proofs.FigureLaws.{stored-length, stored_here, stored_other, frame-stored, frame-kept}
use Rattle.figures.proofs.EntryLaws.{left_at, left-whole, left-none, left_here, left_other}

-- The stores that take a flow out at a queue, each worked out from what the ones before it left.
module _ (figures : List ℕ) (e : ℕ) (share : Aggregate) (inside : frame_position e < length figures)
    (counted : (share.rate ≤ (figure_at figures e).rate) × (share.burst ≤ (figure_at figures e).burst)) where
  abbrev rates : ℕ
  rates = get_or figures (own_numbers * e) 0 - share.rate

  abbrev bursts : ℕ
  bursts = get_or figures (burst_position e) 0 - share.burst

  abbrev rate_stored : List ℕ
  rate_stored = set figures (own_numbers * e) rates

  abbrev sums_stored : List ℕ
  sums_stored = set rate_stored (burst_position e) (get_or rate_stored (burst_position e) 0 - share.burst)

  -- Nothing but the sums is stored.
  burst-kept : get_or rate_stored (burst_position e) 0 ≡ get_or figures (burst_position e) 0
  burst-kept = get_or-set_other figures (own_numbers * e) (burst_position e) rates 0 (omega arith)

  rate-left : get_or sums_stored (own_numbers * e) 0 ≡ rates
  rate-left =
      get_or-set_other rate_stored (burst_position e) (own_numbers * e) _ 0 (omega arith)
      ∙ get_or-set_same figures (own_numbers * e) rates 0 (omega arith)

  frame_left : get_or sums_stored (frame_position e) 0 ≡ get_or figures (frame_position e) 0
  frame_left =
      get_or-set_other rate_stored (burst_position e) (frame_position e) _ 0 (omega arith)
      ∙ get_or-set_other figures (own_numbers * e) (frame_position e) rates 0 (omega arith)

  less : (largest : ℕ) {figures' : List ℕ} {again : Bool} → figures' ≡ figure_stored figures e (record { rate = rates; burst = bursts; frame = largest })
      → FrameLeft rates share.frame (get_or figures (frame_position e) 0) largest again
      → HopRemoved share figures e figures' again
  unfolding figure_at
  less largest stored left =
      let r : share.rate ≤ get_or figures (own_numbers * e) 0 = counted.0 in
      let b : share.burst ≤ get_or figures (burst_position e) 0 = counted.1 in
      record {
        left = record { rate = rates; burst = bursts; frame = largest };
        stored = stored;
        rate-left = omega (arith, r);
        burst-left = omega (arith, b);
        frame-left = left;
      }

  frame-gone : set sums_stored (frame_position e) 0 ≡ figure_stored figures e (record { rate = rates; burst = bursts; frame = 0 })
  frame-gone = rw burst-kept (frame-stored figures e rates bursts 0)

  pub less_none : get_or sums_stored (own_numbers * e) 0 ≡ 0 → HopRemoved share figures e (set sums_stored (frame_position e) 0) false
  less_none z = less 0 frame-gone (no_flow refl (sym rate-left ∙ z) refl)

  pub less-own : (get_or sums_stored (own_numbers * e) 0 ≡ 0 → ⊥) → get_or sums_stored (frame_position e) 0 ≤ share.frame
      → HopRemoved share figures e (set sums_stored (frame_position e) 0) true
  less-own some le = less 0 frame-gone (unknown refl (omega (arith, some, rate-left)) (omega (arith, le, frame_left)) refl)

  pub less-kept : (get_or sums_stored (own_numbers * e) 0 ≡ 0 → ⊥) → share.frame < get_or sums_stored (frame_position e) 0
      → HopRemoved share figures e sums_stored false
  less-kept some lt =
      less (get_or figures (frame_position e) 0) (rw burst-kept (frame-kept figures e rates bursts)) (another refl (omega (arith, some, rate-left)) (omega (arith, lt, frame_left)) refl)

or-false : (a b : Bool) → (a || b) ≡ false → (a ≡ false) × (b ≡ false)
or-false false b e = (refl, e)
or-false true b e = absurd (true≢false e)

or-true : (a b : Bool) → (a || b) ≡ true → (a ≡ true) ⊎ (b ≡ true)
or-true false b e = inr e
or-true true b e = inl refl

-- The queue at this index of the path has flows left, and its largest frame must be raised.
abbrev MustRaise : (entries figures : List ℕ) (j : ℕ) → Type 0
MustRaise entries figures j = (j < length entries) × (1 ≤ (figure_at figures (get_or entries j 0)).rate) × ((figure_at figures (get_or entries j 0)).frame ≡ 0)

-- The figures so far, `figures`, with the hops from `i` on left, before which S is `sum`.
pub record Removing (share : Aggregate) (table entries before figures : List ℕ) (sum i : ℕ) (again : Bool) : Type 0 where
  pub long : length figures ≡ figure_numbers
  pub sum_below : sum ≤ i * 100000
  pub left : (f : Flow) (fs : List Flow) → AllQueues table entries → FlowOf share entries f → Figures (table_of table) (f ∷ fs) before
      → (e : ℕ) → e < queues_most
      → Near ((1 ≤ share.rate) × Carried (table_of table) fs × (again ≡ false)) (figure_at figures e)
      (together (left_at table f sum i e) (model.aggregate_at (table_of table) fs (hop_at e)))
  pub others : (e : ℕ) → All (λ x. e ≡ x → ⊥) entries → figure_at figures e ≡ figure_at before e
  pub kept : (e : ℕ) → 1 ≤ (figure_at figures e).rate → share.frame < (figure_at before e).frame → (figure_at figures e).frame ≡ (figure_at before e).frame
  pub must : again ≡ true → Once entries
      → (j : ℕ) × (j < i) × MustRaise entries figures j

near_same : {sure : Type 0} {a b : Aggregate} → a ≡ b → Near sure a b
near_same {a = a} {b = b} e = record { rate = rates; burst = ap (λ (x : Aggregate). x.burst) e; low = omega (arith, frames); frame = λ s. frames }
  where
    rates : a.rate ≡ b.rate
    rates = ap (λ (x : Aggregate). x.rate) e

    frames : a.frame ≡ b.frame
    frames = ap (λ (x : Aggregate). x.frame) e

near-less : {sure sure' : Type 0} {a b : Aggregate} → (sure' → sure) → Near sure a b → Near sure' a b
near-less h near = record { rate = near.rate; burst = near.burst; low = near.low; frame = λ s. near.frame (h s) }

-- A flow taken out of the figures `a` of a queue: `b` are those of the others, and `rest` is what the flow's later hops add there.
module _ {sure sure' : Type 0} (share a a' rest b : Aggregate) {own : Bool}
    (rate-left : a'.rate + share.rate ≡ a.rate) (burst-left : a'.burst + share.burst ≡ a.burst)
    (near : Near sure a (together rest (together b share)))
    (known : sure' → sure × (own ≡ false) × (rest.rate + b.rate ≡ 0 → max rest.frame b.frame ≡ 0)) where
  frame-low : FrameLeft a'.rate share.frame a.frame a'.frame own → a'.frame ≤ max rest.frame b.frame
  unfolding together
  frame-low (no_flow o z l) = omega arith
  frame-low (unknown o some le l) = omega arith
  frame-low (another o some lt l) = omega (arith, near.low)

  frame_same : FrameLeft a'.rate share.frame a.frame a'.frame own → sure' → a'.frame ≡ max rest.frame b.frame
  unfolding together
  frame_same (no_flow o z l) s = l ∙ sym ((known s).2 (omega (arith, rate-left, near.rate)))
  frame_same (unknown o some le l) s = absurd (true≢false (sym o ∙ (known s).1))
  frame_same (another o some lt l) s = omega (arith, near.frame (known s).0)

  taken_out : FrameLeft a'.rate share.frame a.frame a'.frame own → Near sure' a' (together rest b)
  unfolding together
  taken_out left =
      record {
        rate = omega (arith, rate-left, near.rate);
        burst = omega (arith, burst-left, near.burst);
        low = frame-low left;
        frame = frame_same left;
      }

module _ (share : Aggregate) (table entries before : List ℕ) where
  abbrev t : Table
  t = table_of table

  pub removing-none : length before ≡ figure_numbers → Removing share table entries before before 0 0 false
  removing-none long =
      record {
        long = long;
        sum_below = omega arith;
        left = λ f fs named is exact e lt. near_same (exact.same e lt ∙ left-whole table f fs e);
        others = λ e off. refl;
        kept = λ e some lt. refl;
        must = λ again once. absurd (true≢false (sym again));
      }

  module _ {figures : List ℕ} {sum i : ℕ} {again : Bool} (so_far : Removing share table entries before figures sum i again) where
    pub removing-all : length entries ≤ i → PathRemoved share table entries before figures again
    removing-all end =
        record {
          long = so_far.long;
          left = λ f fs named is exact one carried e lt.
              let near = subst (Near ((1 ≤ share.rate) × Carried t fs × (again ≡ false)) (figure_at figures e)) (left-none is table sum i end e (model.aggregate_at t fs (hop_at e))) (so_far.left f fs named is exact e lt) in
              record { rate = near.rate; burst = near.burst; low = near.low; frame = λ known. near.frame (one, carried, known) };
          others = so_far.others;
          kept = so_far.kept;
          must = λ raise once. let (j, lt, there) = so_far.must raise once in (j, there.0, there.1, there.2);
        }

    module _ (more : i < length entries) (e₁ : get_or entries i 0 < queues_most) where
      abbrev x : ℕ
      x = get_or entries i 0

      abbrev there : Aggregate
      there = model.grown share sum

      module _ (f : Flow) (fs : List Flow) (named : AllQueues table entries) (is : FlowOf share entries f) (exact : Figures t (f ∷ fs) before) where
        abbrev past : ℕ
        past = sum + growth_at table x

        abbrev rest : ℕ → Aggregate
        rest e = left_at table f past (i + 1) e

        abbrev Sure : Bool → Type 0
        Sure again = (1 ≤ share.rate) × Carried t fs × (again ≡ false)

        left-here-now : Near (Sure again) (figure_at figures x) (together (rest x) (together (model.aggregate_at t fs (hop_at x)) there))
        left-here-now =
            subst (Near (Sure again) (figure_at figures x)) (left_here is table sum i named more (model.aggregate_at t fs (hop_at x))) (so_far.left f fs named is exact x e₁)

        here-room : (there.rate ≤ (figure_at figures x).rate) × (there.burst ≤ (figure_at figures x).burst)
        unfolding together
        here-room = (omega (arith, left-here-now.rate), omega (arith, left-here-now.burst))

        none_left : 1 ≤ share.rate → Carried t fs → (rest x).rate + (model.aggregate_at t fs (hop_at x)).rate ≡ 0
            → max (rest x).frame (model.aggregate_at t fs (hop_at x)).frame ≡ 0
        none_left one carried z =
            omega (
              arith,
              shares-carried t f (subst (λ (a : Aggregate). 1 ≤ a.rate) (sym is.is) one) (hop_at x) past (drop (i + 1) f.path) (omega arith),
              carried (hop_at x) (omega arith),
            )

        module _ {figures' : List ℕ} {own again' : Bool} (removed : HopRemoved there figures x figures' own) (both : again' ≡ false → (again ≡ false) × (own ≡ false)) where
          step : (e : ℕ) → e < queues_most → Dec (e ≡ x)
              → Near (Sure again') (figure_at figures' e) (together (rest e) (model.aggregate_at t fs (hop_at e)))
          step e lt (yes same) =
              rw (same, removed.stored, stored_here figures x removed.left (omega (arith, so_far.long)))
              (taken_out there (figure_at figures x) removed.left (rest x) (model.aggregate_at t fs (hop_at x))
              removed.rate-left removed.burst-left left-here-now
              (λ s. let no = both s.2 in ((s.0, s.1, no.0), no.1, none_left s.0 s.1)) removed.frame-left)
          step e lt (no other) =
              rw (removed.stored, stored_other figures x removed.left e other)
              (near-less (λ s. (s.0, s.1, (both s.2).0))
              (subst (λ a. Near (Sure again) (figure_at figures e) (together a (model.aggregate_at t fs (hop_at e))))
              (left_other is table sum i named more e other) (so_far.left f fs named is exact e lt)))

      -- The flow is counted in at the hop.
      pub removing-room : PathCounted share table entries before → {own : Aggregate} → own ≡ there
          → (own.rate ≤ (figure_at figures x).rate) × (own.burst ≤ (figure_at figures x).burst)
      removing-room counted own_is =
          rw own_is (here-room counted.f counted.fs counted.named counted.is counted.exact)

      module _ {figures' : List ℕ} {own : Bool} (removed : HopRemoved there figures x figures' own) where
        abbrev left : Aggregate
        left = removed.left

        at-hop : figure_at figures' x ≡ left
        at-hop = ap (λ l. figure_at l x) removed.stored ∙ stored_here figures x left (omega (arith, so_far.long))

        elsewhere : (e : ℕ) → (e ≡ x → ⊥) → figure_at figures' e ≡ figure_at figures e
        elsewhere e other = ap (λ l. figure_at l e) removed.stored ∙ stored_other figures x left e other

        hop-kept : FrameLeft left.rate share.frame (figure_at figures x).frame left.frame own
            → 1 ≤ left.rate → share.frame < (figure_at before x).frame → left.frame ≡ (figure_at before x).frame
        hop-kept (no_flow o z l) some lt = absurd (omega (arith, z))
        hop-kept (another o some₁ lt₁ l) some lt = l ∙ so_far.kept x (omega (arith, removed.rate-left)) lt
        hop-kept (unknown o some₁ le l) some lt = absurd (omega (arith, le, so_far.kept x (omega (arith, removed.rate-left)) lt))

        step_kept : (e : ℕ) → Dec (e ≡ x) → 1 ≤ (figure_at figures' e).rate → share.frame < (figure_at before e).frame → (figure_at figures' e).frame ≡ (figure_at before e).frame
        step_kept e (yes same) some lt =
            rw (same, at-hop) (hop-kept removed.frame-left (rw (same, at-hop) at some) (rw same at lt))
        step_kept e (no other) some lt = rw (elsewhere e other) (so_far.kept e (rw (elsewhere e other) at some) lt)

        hop-must : FrameLeft left.rate share.frame (figure_at figures x).frame left.frame own → own ≡ true → MustRaise entries figures' i
        hop-must (no_flow o z l) raise = absurd (true≢false (sym raise ∙ o))
        hop-must (another o some lt l) raise = absurd (true≢false (sym raise ∙ o))
        hop-must (unknown o some le l) raise = rw at-hop (more, some, l)

        step-must : {again' : Bool} → (again' ≡ true → (again ≡ true) ⊎ (own ≡ true)) → again' ≡ true → Once entries → (j : ℕ) × (j < i + 1) × MustRaise entries figures' j
        step-must from raise once =
            ⊎_elim
            (λ earlier.
            let (j, lt, there) = so_far.must earlier once in
            (j, omega (arith, lt), rw (elsewhere (get_or entries j 0) (once j i lt more)) there))
            (λ here. (i, omega arith, hop-must removed.frame-left here))
            (from raise)

      -- The flow is taken out at the hop.
      pub removing-next : (low : growth_at table x ≤ 100000) {share' : Aggregate} {past : ℕ} {figures' : List ℕ} {own : Bool}
          → share' ≡ there → past ≡ sum + growth_at table x
          → HopRemoved share' figures x figures' own
          → Removing share table entries before figures' past (i + 1) (again || own)
      removing-next low {figures' = figures'} {own = own} same past_is removed =
          let now = subst (λ (a : Aggregate). HopRemoved a figures x figures' own) same removed in
          rw past_is
          (record {
            long = ap length removed.stored ∙ stored-length figures x removed.left ∙ so_far.long;
            sum_below = omega (arith, so_far.sum_below);
            left = λ f fs named is exact e lt. step f fs named is exact now (or-false again own) e lt (ℕ_discrete e x);
            others = λ e off.
                ap (λ l. figure_at l e) removed.stored
                ∙ stored_other figures x removed.left e (all_get_d (λ d. e ≡ d → ⊥) entries i 0 off more)
                ∙ so_far.others e off;
            kept = λ e. step_kept now e (ℕ_discrete e x);
            must = step-must now (or-true again own);
          })
