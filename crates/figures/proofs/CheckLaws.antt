-- The loops that check a path link by link: what the hops left say is what the whole path says.
-- Assumes nothing.
use Prim.Native.Nat.{ℕ, suc, ◌+◌, ◌*◌, ◌≤◌, ◌<◌}
use mathlib.Core.Path.{◌≡◌, refl, sym, ap, ◌∙◌}
use mathlib.Core.Bool.{true}
use mathlib.Core.List.{List, [], ◌∷◌, ◌++◌, map, map-append}
use mathlib.Core.Option.{Option, none, some}
use Rattle.std.specs.Prelude.{Result, Ok, Err}
use native.Mathlib.Omega.{arith}
use native.Mathlib.Numerals.{add-one}
use lib.ListN.{length, get_or, take, drop}
use lib.Seq.{take-suc, split_at}
use Rattle.model.specs.Words.{All}
use Rattle.model.specs.Sizes.{queues_most}
use Rattle.model.specs.Total.{total}
use Rattle.model.proofs.Laws.Total.{total-append}
use Rattle.model.specs.Formula.{Aggregate}
use Rattle.model.specs.QueueTable.{Table}
use Rattle.model.specs.Orders.{Hop, Flow}
use Rattle.model.specs.Aggregates as model
use Rattle.model.specs.WithFlow.{together}
use Rattle.model.specs.Schedulable.{Named}
use Rattle.model.specs.Reference.{Cause, cause_at, link_findings, first_cause}
use Rattle.model.proofs.Laws.Aggregates.{growth_sum}
use Rattle.model.proofs.Laws.All.{all-imp, map-all, all_get_d}
use Rattle.model.proofs.Laws.Figures.{Crossed, crossed}
use Rattle.queue_table.specs.View.{link_in, level_in, queue_at, table_of, hop_at, is_queue}
use Rattle.queue_table.proofs.EntryLaws.{queue-named}
use Rattle.link_check.proofs.Laws.{mapped_next, mapped_end}
use Rattle.causes.specs.declared.Cause as code
use Rattle.causes.specs.View.{cause_of}
use Rattle.figures.specs.View.{growth_at, counted_at, changed_at, RoomAt, Figures, FlowOf, OnTable, cause_with, PathChecked, ChangeChecked}
use Rattle.figures.proofs.EntryLaws.{growth-named}
use Rattle.units.specs.declared.Aggregate as units
use Rattle.units.specs.declared.Micros.{Micros}
use Rattle.units.specs.View.{aggregate_of}
use Rattle.figures.specs.Checks.{SumAt, Met, Answered}
use Rattle.figures.proofs.LinkLaws.{hop-cause, own-level, levels-counted, levels-changed}

-- The links before hop `i` pass, and `sum` is S over the hops before it.
pub record Checking (gives : ℕ → Micros → units.Aggregate → Type 0) (table figures entries : List ℕ) (sum i : ℕ) : Type 0 where
  pub sum_below : sum ≤ i * 100000
  pub sum_is : OnTable table entries → sum ≡ growth_sum (table_of table) (map hop_at (take i entries))
  pub left : (gs : List Flow) → Met gives table figures entries gs
      → first_cause (link_findings (table_of table) gs (drop i (map hop_at entries))) ≡ first_cause (link_findings (table_of table) gs (map hop_at entries))

hop-named : {table entries : List ℕ} {i : ℕ} → OnTable table entries → i < length entries → is_queue table (get_or entries i 0) ≡ true
hop-named {table} {entries} {i} path more = all_get_d (λ e. is_queue table e ≡ true) entries i 0 path.named more

module _ (gives : ℕ → Micros → units.Aggregate → Type 0) (table figures entries : List ℕ) where
  abbrev t : Table
  t = table_of table

  pub checking-none : Checking gives table figures entries 0 0
  unfolding growth_sum total
  checking-none = record { sum_below = omega arith; sum_is = λ path. refl; left = λ gs met. refl }

  module _ {sum i : ℕ} (so_far : Checking gives table figures entries sum i) where
    pub checking-all : length entries ≤ i → Answered gives table figures entries (Ok tt)
    unfolding link_findings first_cause
    checking-all end gs met = sym (ap (λ l. first_cause (link_findings t gs l)) (mapped_end hop_at entries i end)) ∙ so_far.left gs met

    -- What the check of the hop at `i` found, with the figures there.
    module _ (more : i < length entries) {o : Option Cause} {there : units.Aggregate} (given : gives (get_or entries i 0) (record { 0 = sum }) there)
        (found : o ≡ cause_with table figures (get_or entries i 0) (aggregate_of there)) where
      abbrev e : ℕ
      e = get_or entries i 0

      sum-at : SumAt table entries i sum
      sum-at = record { inside = more; below = so_far.sum_below; is = so_far.sum_is }

      step : (gs : List Flow) → Met gives table figures entries gs
          → first_cause (o ∷ link_findings t gs (drop (i + 1) (map hop_at entries))) ≡ first_cause (link_findings t gs (map hop_at entries))
      unfolding link_findings
      step gs met =
          let at-hop : cause_at t gs (hop_at e).link (model.link_at t (hop_at e).link) ≡ o
          = hop-cause table e (hop-named met.path more) figures met.well gs met.on _ (met.levels i (record { 0 = sum }) there sum-at given)
          ∙ sym found in
          ap (λ o. first_cause (o ∷ link_findings t gs (drop (i + 1) (map hop_at entries)))) (sym at-hop)
          ∙ ap (λ l. first_cause (link_findings t gs l)) (sym (mapped_next hop_at entries i 0 more))
          ∙ so_far.left gs met

      pub checking-found : (cause : code.Cause) → some (cause_of cause) ≡ o → Answered gives table figures entries (Err cause)
      unfolding first_cause
      checking-found cause fault gs met = ap (λ o. first_cause (o ∷ link_findings t gs (drop (i + 1) (map hop_at entries)))) fault ∙ step gs met

      sum-next : OnTable table entries → sum + growth_at table e ≡ growth_sum t (map hop_at (take (i + 1) entries))
      unfolding growth_sum total
      sum-next path =
          let taken : map hop_at (take (i + 1) entries) ≡ map hop_at (take i entries) ++ (hop_at e ∷ [])
          = ap (λ k. map hop_at (take k entries)) (add-one i) ∙ ap (map hop_at) (take-suc entries i 0 more) ∙ map-append hop_at (take i entries) (e ∷ []) in
          rw taken
          (omega (
            arith,
            total-append (model.growth t) (map hop_at (take i entries)) (hop_at e ∷ []),
            so_far.sum_is path,
            growth-named table e (hop-named path more),
          ))

      pub checking-next : none ≡ o → growth_at table e ≤ 100000 → {past : ℕ} → past ≡ sum + growth_at table e
          → Checking gives table figures entries past (i + 1)
      unfolding first_cause
      checking-next fits low past_is =
          rw past_is
          (record {
            sum_below = omega (arith, so_far.sum_below);
            sum_is = sum-next;
            left = λ gs met. ap (λ o. first_cause (o ∷ link_findings t gs (drop (i + 1) (map hop_at entries)))) fits ∙ step gs met;
          })

-- A flow on the path crosses the link of the hop at `i` there alone.
module _ {table entries : List ℕ} (path : OnTable table entries) {share : Aggregate} {f : Flow} (is : FlowOf share entries f) where
  hop-crossed : (i : ℕ) → i < length entries
      → Crossed f.path (map hop_at (take i entries)) (hop_at (get_or entries i 0)) (map hop_at (drop (suc i) entries))
  hop-crossed i more =
      let before : List Hop = map hop_at (take i entries) in
      let after : List Hop = map hop_at (drop (suc i) entries) in
      let split : map hop_at entries ≡ before ++ hop_at (get_or entries i 0) ∷ after
      = ap (map hop_at) (split_at entries i 0 more) ∙ map-append hop_at (take i entries) (get_or entries i 0 ∷ drop (suc i) entries) in
      crossed 16 before (hop_at (get_or entries i 0)) after (is.path-is ∙ split) (rw is.path-is path.once)

  path-named : All (Named (table_of table)) f.path
  path-named =
      rw is.path-is
      (map-all (Named (table_of table)) hop_at entries
      (all-imp entries (λ e q. record { queue = queue_at table (link_in e) (level_in e); found = queue-named table e q }) path.named))

  -- The figures that hold the flow.
  pub counted-room : {figures : List ℕ} {sum i : ℕ} (fs : List Flow) → Figures (table_of table) (f ∷ fs) figures → (more : i < length entries) → get_or entries i 0 < queues_most
      → sum ≡ growth_sum (table_of table) (map hop_at (take i entries))
      → RoomAt share figures (get_or entries i 0) sum
  unfolding together
  counted-room {figures} {sum} {i} fs exact more low sum_is =
      let e : ℕ = get_or entries i 0 in
      let own = own-level table e (hop-named path more) figures f fs (hop-crossed i more) low exact in
      rw (sum_is, sym is.is) (omega (arith, ap (λ (a : Aggregate). a.rate) own), omega (arith, ap (λ (a : Aggregate). a.burst) own))

-- Whatever the step gives at a hop is `own` of the queue and S there.
abbrev Gives : (own : (e sum : ℕ) → Aggregate) (gives : ℕ → Micros → units.Aggregate → Type 0) (table entries : List ℕ) → Type 0
Gives own gives table entries =
    (i : ℕ) (sum : Micros) (there : units.Aggregate) → SumAt table entries i sum.0 → gives (get_or entries i 0) sum there → aggregate_of there ≡ own (get_or entries i 0) sum.0

module _ {share : Aggregate} (gives : ℕ → Micros → units.Aggregate → Type 0) (table figures entries : List ℕ) {r : Result (Unit {0}) code.Cause} where
  -- With the flow beside those of the figures.
  pub path-checked : Gives (counted_at share figures) gives table entries → Answered gives table figures entries r → PathChecked share table figures entries r
  path-checked own answered =
      record {
        first = λ fs f well path is exact on.
            answered (f ∷ fs)
            (record {
              well = well;
              path = path;
              on = (path-named path is, on);
              levels = λ i sum there at given.
                  rw (own i sum there at given, at.is path, sym is.is)
                  (levels-counted table (get_or entries i 0) (hop-named path at.inside) figures well fs exact f (hop-crossed path is i at.inside));
            })
            ∙ ap (λ l. first_cause (link_findings (table_of table) (f ∷ fs) l)) (sym is.path-is);
      }

  -- With a flow in place of one that the figures hold.
  pub change-checked : {was : Aggregate} → Gives (changed_at was share figures) gives table entries → Answered gives table figures entries r
      → ChangeChecked was share table figures entries r
  change-checked own answered =
      record {
        first = λ fs f g well path is is' same exact on.
            answered (g ∷ fs)
            (record {
              well = well;
              path = path;
              on = (path-named path is', on);
              levels = λ i sum there at given.
                  rw (own i sum there at given, at.is path, sym is.is, sym is'.is)
                  (levels-changed table (get_or entries i 0) (hop-named path at.inside) figures well fs f exact g
                  (ap (λ (a : Aggregate). a.frame) is.is ∙ same ∙ sym (ap (λ (a : Aggregate). a.frame) is'.is))
                  (hop-crossed path is i at.inside) (hop-crossed path is' i at.inside));
            })
            ∙ ap (λ l. first_cause (link_findings (table_of table) (g ∷ fs) l)) (sym is'.path-is);
      }
