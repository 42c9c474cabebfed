-- The check of eight levels in the arrays is the model's check of the link, as the flows are, with one more counted in at its hop, and with
-- one in place of another there. Levels past the link's own carry no flow of the table, so the law of padding applies. Assumes nothing.
use Prim.Native.Nat.{ℕ, zero, suc, ◌+◌, ◌-◌, ◌≤◌, ◌<◌}
use mathlib.Core.Path.{◌≡◌, refl, sym, ap, ap₂, subst, ◌∙◌}
use mathlib.Core.Bool.{true}
use mathlib.Core.List.{List, [], ◌∷◌, ◌++◌, append-nil, append_assoc}
use mathlib.Core.Option.{none-ne-some, some-injective}
use native.Mathlib.Nat.{add-zero}
use native.Mathlib.Omega.{arith}
use native.Mathlib.Decide.{dec_lt}
use native.Mathlib.Numerals.{add-one}
use lib.ListN.{length, get_or, set}
use lib.Seq.{set-set}
use Rattle.model.specs.Words.{All, nth}
use Rattle.model.specs.Sizes.{links_most, levels_most, queues_most}
use Rattle.model.specs.Formula.{Aggregate}
use Rattle.model.specs.QueueTable.{Queue, Link, Table}
use Rattle.model.specs.Orders.{Hop, Flow}
use Rattle.model.specs.Aggregates as model
use Rattle.model.specs.WithFlow.{no_flow, together}
use Rattle.model.specs.LinkCheck.{Finding, link_finding}
use Rattle.model.specs.Schedulable.{Named, LinkMeets}
use Rattle.model.specs.Reference.{link_cause, cause_at}
use Rattle.model.proofs.Laws.Aggregates.{growth_sum}
use Rattle.model.proofs.Laws.LinkSteps.{padding}
use Rattle.model.proofs.Laws.Figures.{Crossed, counted, shares-nothing, levels-more, levels-append, levels-length, levels-empty, aggregate-unnamed}
use Rattle.queue_table.specs.View.{up_to, entry_at, link_in, level_in, link_count, speed_at, best_effort_at, levels_at, queue_at, link_at, table_of, hop_at, is_queue, WellFormed}
use Rattle.queue_table.proofs.ViewLaws.{length_up, up_same}
use Rattle.queue_table.proofs.LookupLaws.{link-found, link-missing, queue-no-level}
use Rattle.figures.specs.Checks.{eight_of}
use Rattle.figures.specs.View.{figure_at, level_figures, levels_with, counted_at, replaced, changed_at, finding_at, cause_with, code_at, Figures}
use Rattle.queue_table.proofs.EntryLaws.{queue-within, queue-low}
use Rattle.figures.proofs.EntryLaws.{entry-hop}
use Rattle.figures.proofs.FigureLaws.{kept_frame, kept_same, replaced-own}

up_split : {A : Type 0} (m k : ℕ) (f : ℕ → A) → up_to (m + k) f ≡ up_to m f ++ up_to k (λ p. f (m + p))
unfolding up_to
up_split m zero f = rw (add-zero m) (sym (append-nil (up_to m f)))
up_split m (suc k) f =
    let e : m + suc k ≡ suc (m + k) = omega arith in
    rw e (ap (λ l. l ++ (f (m + k) ∷ [])) (up_split m k f) ∙ append_assoc (up_to m f) (up_to k (λ p. f (m + p))) (f (m + k) ∷ []))

module _ (t : Table) (fs : List Flow) (link : ℕ) where
  -- Level by level, whatever the queues are.
  levels-up : (m : ℕ) (g : ℕ → Queue)
      → model.level_aggregates t fs link 1 (up_to m g) ≡ up_to m (λ p. model.aggregate_at t fs (record { link = link; level = p + 1 }))
  unfolding up_to model.level_aggregates
  levels-up zero g = refl
  levels-up (suc m) g =
      let e : 1 + length (up_to m g) ≡ m + 1 = omega (arith, length_up m g) in
      levels-append t fs link 1 (up_to m g) (g m ∷ [])
      ∙ ap₂ (λ (l : List Aggregate) (k : ℕ). l ++ (model.aggregate_at t fs (record { link = link; level = k }) ∷ [])) (levels-up m g) e

module _ (table : List ℕ) where
  abbrev t : Table
  t = table_of table

  figure-levels : (fs : List Flow) (figures : List ℕ) (i : ℕ) → i < links_most → Figures t fs figures → eight_of table fs i ≡ level_figures figures i
  unfolding level_figures
  figure-levels fs figures i h exact =
      levels-up t fs (i + 1) levels_most (queue_at table i)
      ∙ up_same levels_most (λ p. model.aggregate_at t fs (record { link = i + 1; level = p + 1 })) (λ p. figure_at figures (entry_at i p))
      (λ p lt. sym (exact.same (entry_at i p) (omega arith) ∙ ap (model.aggregate_at t fs) (entry-hop i p lt)))

  -- Eight levels say what the link's own levels say.
  eight-levels : (fs : List Flow) (i speed best_effort : ℕ) → i < link_count table → levels_at table i ≤ levels_most → All (λ g. All (Named t) g.path) fs
      → link_finding speed best_effort (up_to levels_most (queue_at table i)) (eight_of table fs i)
      ≡ link_finding speed best_effort (up_to (levels_at table i) (queue_at table i)) (model.level_aggregates t fs (i + 1) 1 (up_to (levels_at table i) (queue_at table i)))
  eight-levels fs i speed best_effort h shallow on =
      let m : ℕ = levels_at table i in
      let own : List Queue = up_to m (queue_at table i) in
      let more : List Queue = up_to (levels_most - m) (λ p. queue_at table i (m + p)) in
      let whole : levels_most ≡ m + (levels_most - m) = omega arith in
      let split : up_to levels_most (queue_at table i) ≡ own ++ more = ap (λ k. up_to k (queue_at table i)) whole ∙ up_split m (levels_most - m) (queue_at table i) in
      let past : (p : ℕ) → 1 + length own ≤ p → model.aggregate_at t fs (record { link = i + 1; level = p }) ≡ no_flow
      = λ p le.
      let e : p ≡ p - 1 + 1 = omega arith in
      rw e (aggregate-unnamed t (record { link = i + 1; level = p - 1 + 1 }) (queue-no-level table i (p - 1) h (omega (arith, length_up m (queue_at table i)))) fs on) in
      rw split
      (ap (link_finding speed best_effort (own ++ more)) (levels-append t fs (i + 1) 1 own more)
      ∙ padding speed best_effort more (model.level_aggregates t fs (i + 1) (1 + length own) more) (levels-empty t fs (i + 1) (1 + length own) more past) own
      (model.level_aggregates t fs (i + 1) 1 own)
      (sym (levels-length t fs (i + 1) 1 own)))

  -- The link of queue `e`.
  module _ (e : ℕ) (named : is_queue table e ≡ true) (figures : List ℕ) where
    abbrev i : ℕ
    i = link_in e

    -- The finding there, where the levels with the figures `own` at the queue are those of the flows.
    pub hop-cause : WellFormed table → (fs : List Flow) → All (λ g. All (Named t) g.path) fs → (own : Aggregate) → eight_of table fs i ≡ levels_with figures e own
        → cause_at t fs (hop_at e).link (model.link_at t (hop_at e).link) ≡ cause_with table figures e own
    unfolding cause_at link_at hop_at
    hop-cause well fs on own levels =
        let within = queue-within table e named in
        ap (cause_at t fs (i + 1)) (link-found table i within.0)
        ∙ ap (link_cause (i + 1))
        (sym (eight-levels fs i (speed_at table i) (best_effort_at table i) within.0 (well.shallow i within.0) on)
        ∙ ap (finding_at table i) levels)

    -- The levels with a flow that crosses the link at the queue alone.
    module _ (f : Flow) (fs : List Flow) {before after : List Hop} (c : Crossed f.path before (hop_at e) after) where
      -- The figures of the queue.
      abbrev with_flow : Aggregate
      with_flow = together (model.aggregate_at t fs (hop_at e)) (model.grown (model.source f) (growth_sum t before))

      one-level : eight_of table (f ∷ fs) i ≡ set (eight_of table fs i) (level_in e) with_flow
      unfolding counted hop_at
      one-level = levels-more t f fs c 1 (level_in e) (up_to levels_most (queue_at table i)) (omega arith)

      pub own-level : e < queues_most → Figures t (f ∷ fs) figures → figure_at figures e ≡ with_flow
      unfolding counted model.level_aggregates
      own-level low exact =
          exact.same e low ∙ ap (λ l. get_or l 0 no_flow) (levels-more t f fs c (hop_at e).level 0 (queue_at table 0 0 ∷ []) (omega arith))

    few : WellFormed table → i < links_most
    few well = omega (arith, (queue-within table e named).0, well.few)

    module _ (well : WellFormed table) (fs : List Flow) {before after : List Hop} where
      -- A flow more.
      pub levels-counted : Figures t fs figures → (f : Flow) → Crossed f.path before (hop_at e) after
          → eight_of table (f ∷ fs) i ≡ levels_with figures e (counted_at (model.source f) figures e (growth_sum t before))
      unfolding levels_with
      levels-counted exact f c =
          one-level f fs c
          ∙ ap₂ (λ (l : List Aggregate) (a : Aggregate). set l (level_in e) (together a (model.grown (model.source f) (growth_sum t before)))) (figure-levels fs figures i (few well) exact) (sym (exact.same e (queue-low table e named well.few)))

      -- A flow in place of another with its largest frame.
      pub levels-changed : (f : Flow) → Figures t (f ∷ fs) figures → (g : Flow) → f.frame ≡ g.frame
          → Crossed f.path before (hop_at e) after
          → Crossed g.path before (hop_at e) after
          → eight_of table (g ∷ fs) i ≡ levels_with figures e (changed_at (model.source f) (model.source g) figures e (growth_sum t before))
      unfolding levels_with
      levels-changed f exact g same c d =
          let was : Aggregate = model.grown (model.source f) (growth_sum t before) in
          let share : Aggregate = model.grown (model.source g) (growth_sum t before) in
          let others : Aggregate = model.aggregate_at t fs (hop_at e) in
          let own : replaced (figure_at figures e) was share ≡ together others share
          = ap (λ a. replaced a was share) (own-level f fs c (queue-low table e named well.few) exact ∙ sym (shares-nothing (hop_at e) (together others was)))
          ∙ replaced-own (model.shares_at (hop_at e) []) others was share
          ∙ shares-nothing (hop_at e) (together others (kept_frame was share))
          ∙ ap (together others) (kept_same was share same) in
          one-level g fs d
          ∙ sym (set-set (eight_of table fs i) (level_in e) (with_flow f fs c) (with_flow g fs d))
          ∙ ap₂ (λ (l : List Aggregate) (a : Aggregate). set l (level_in e) a) (sym (one-level f fs c) ∙ figure-levels (f ∷ fs) figures i (few well) exact) (sym own)

  -- The finding at a link as the flows are.
  module _ (well : WellFormed table) (fs : List Flow) (figures : List ℕ) (exact : Figures t fs figures) (on : All (λ g. All (Named t) g.path) fs) where
    own_code : (i : ℕ) → i < link_count table
        → (link_finding (link_at table i).speed (link_at table i).best_effort (link_at table i).levels (model.level_aggregates t fs (i + 1) 1 (link_at table i).levels)).code
        ≡ code_at table figures i
    unfolding link_at
    own_code i h =
        ap (λ (w : Finding). w.code)
        (sym (eight-levels fs i (speed_at table i) (best_effort_at table i) h (well.shallow i h) on)
        ∙ ap (finding_at table i) (figure-levels fs figures i (omega (arith, well.few)) exact))

    pub meets-code : (i : ℕ) → i < link_count table → LinkMeets t fs (i + 1) → code_at table figures i ≡ 0
    meets-code i h m = sym (own_code i h) ∙ m.meets (link_at table i) (link-found table i h)

    code_meets : (i : ℕ) → code_at table figures i ≡ 0 → i < link_count table → LinkMeets t fs (i + 1)
    code_meets i z h =
        record {
          meets = λ k e.
              subst (λ (k : Link). (link_finding k.speed k.best_effort k.levels (model.level_aggregates t fs (i + 1) 1 k.levels)).code ≡ 0)
              (some-injective _ _ (sym (link-found table i h) ∙ e))
              (own_code i h ∙ z);
        }

    -- A number past the links names none.
    pub codes-meet : ((i : ℕ) → i < link_count table → code_at table figures i ≡ 0) → (link : ℕ) → LinkMeets t fs link
    unfolding model.link_at nth
    codes-meet z zero = record { meets = λ k e. absurd (none-ne-some _ e) }
    codes-meet z (suc i) = go (dec_lt i (link_count table))
      where
        go : Dec (i < link_count table) → LinkMeets t fs (suc i)
        go (yes h) = rw (add-one i) at (code_meets i (z i h) h)
        go (no past) =
            let missing = link-missing table i (omega arith) in
            record { meets = λ k e. absurd (none-ne-some _ (sym (rw (add-one i) at missing) ∙ e)) }
