-- A link that meets 21 to 23 still does with a part of the flows, and with a flow more that doesn't cross it. No finding along a path says that
-- each of its links meets them. By the monotone bounds of Laws/LinkCheck. Assumes nothing.
use Rattle.std.specs.Prelude.{ℕ, suc, ◌≡◌, Bool, true, false, cond}
use Rattle.std.proofs.Math.Path.{refl}
use Rattle.std.proofs.Common.{ap, ◌∙◌, eqb-true, eq-eqb}
use mathlib.Core.List.{List, ◌∷◌, Memᴰ}
use Rattle.std.proofs.Math.Option.{Option, none, some, some-ne-none}
use Rattle.std.proofs.Math.ListN.{get_elem?}
use Rattle.model.specs.Words.{All, and_then, nth}
use Rattle.model.specs.Part.{Part}
use Rattle.model.specs.QueueTable.{Queue, Link, Table}
use Rattle.model.specs.Orders.{Hop, Flow}
use Rattle.model.specs.LinkCheck.{Finding}
use Rattle.model.proofs.Laws.LinkCheck.{link-mono, link-finds}
use Rattle.model.specs.Aggregates.{link_at, queue_at, level_aggregates}
use Rattle.model.proofs.Laws.Aggregates.{aggregate-part, aggregate-off, level-pairs}
use Rattle.model.specs.Schedulable.{LinkMeets}
use Rattle.model.specs.Reference.{Cause, crosses, link_cause, cause_at, link_findings}
use Rattle.model.specs.Codes.{queue_codes}
use Rattle.model.proofs.Laws.All.{map-all, all_map, all-imp, member-all}
use Rattle.model.specs.Outcomes.{NoneApplies}
use Rattle.model.proofs.Laws.Finding.{Caused}

module _ (t : Table) where
  pub meets-part : {part fs : List Flow} → Part part fs → (n : ℕ) → LinkMeets t fs n → LinkMeets t part n
  meets-part {part} {fs} p n m =
      record {
        meets = λ k e.
            link-mono k.speed k.best_effort k.levels (level-pairs t part fs n (λ level. aggregate-part t p _) 1 k.levels) (m.meets k e);
      }

  pub meets-off : (f : Flow) (fs : List Flow) (n : ℕ) → crosses n f.path ≡ false → LinkMeets t fs n → LinkMeets t (f ∷ fs) n
  meets-off f fs n off m =
      record {
        meets = λ k e.
            link-mono k.speed k.best_effort k.levels (level-pairs t (f ∷ fs) fs n (λ p. aggregate-off t f fs n p off) 1 k.levels) (m.meets k e);
      }

-- A link's cause and its finding.
unless-none : (b : Bool) (c : Cause) → cond b none (some c) ≡ none → b ≡ true
unless-none true c e = refl
unless-none false c e = absurd (some-ne-none c e)

cause-code : (n : ℕ) (w : Finding) → link_cause n w ≡ none → w.code ≡ 0
unfolding link_cause
cause-code n w z = eqb-true _ _ (unless-none _ _ z)

pub code-cause : (n : ℕ) (w : Finding) → w.code ≡ 0 → link_cause n w ≡ none
unfolding link_cause
code-cause n w z = rw (eq-eqb w.code 0 z)

module _ (t : Table) (fs : List Flow) where
  pub cause-meets : (n : ℕ) → cause_at t fs n (link_at t n) ≡ none → LinkMeets t fs n
  unfolding cause_at
  cause-meets n z = record { meets = λ k e. cause-code n _ (rw e at z) }

  pub meets-cause : (n : ℕ) → LinkMeets t fs n → cause_at t fs n (link_at t n) ≡ none
  unfolding cause_at
  meets-cause n m = go (link_at t n) refl
    where
      go : (o : Option Link) → link_at t n ≡ o → cause_at t fs n o ≡ none
      go none e = refl
      go (some k) e = code-cause n _ (m.meets k e)

  pub findings-meet : (path : List Hop) → NoneApplies (link_findings t fs path) → All (λ h. LinkMeets t fs h.link) path
  unfolding link_findings
  findings-meet path a = all-imp path (λ h. cause-meets h.link) (all_map (λ x. x ≡ none) _ path a)

  pub meet-findings : (path : List Hop) → All (λ h. LinkMeets t fs h.link) path → NoneApplies (link_findings t fs path)
  unfolding link_findings
  meet-findings path a = map-all (λ x. x ≡ none) _ path (all-imp path (λ h. meets-cause h.link) a)

  -- What is found along a path: 21 with one of its links, 22 or 23 with a queue of one.
  pub findings-caused : (P : Cause → Type 0) (path : List Hop)
      → ((h : Hop) → Memᴰ h path → (k : Link) → link_at t h.link ≡ some k → P (record { code = 21; link = h.link; level = 0 }))
      → ((h : Hop) → Memᴰ h path → (p : ℕ) (q : Queue) → queue_at t (record { link = h.link; level = p }) ≡ some q
      → All (λ code. P (record { code = code; link = h.link; level = p })) queue_codes)
      → All (Caused P) (link_findings t fs path)
  unfolding link_findings cause_at link_cause queue_at nth
  findings-caused P path rate level = map-all (Caused P) _ path (member-all _ path (λ h on. go h on (link_at t h.link) refl))
    where
      go : (h : Hop) → Memᴰ h path → (o : Option Link) → link_at t h.link ≡ o → Caused P (cause_at t fs h.link o)
      go h on none e = tt
      go h on (some k) e =
          link-finds (λ w. Caused P (link_cause h.link w)) (λ level. tt) k.speed k.best_effort k.levels (level_aggregates t fs h.link 1 k.levels)
          (rate h on k e)
          (λ i q f. level h on (suc i) q (ap (λ o. and_then o (λ l. get_elem? l.levels i)) e ∙ f))
