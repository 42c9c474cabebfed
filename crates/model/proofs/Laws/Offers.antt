-- What passes a gate over any window is at most burst + rate × its length, in frames that its source may send. So sources behind gates conform.
-- From a stored reading on no more tokens are there than those then and rate × the true time since. By induction on the offers. Assumes nothing.
use Rattle.std.specs.Prelude.{ℕ, zero, suc, ◌+◌, ◌-◌, ◌*◌, ◌≤◌, ◌<◌, ◌≡◌, Bool, cond}
use Rattle.std.proofs.Math.Path.{refl}
use Rattle.std.proofs.Common.{sym, subst, ◌∙◌, le_refl, leb-true, leb-false, ltb-true, ltb-false, eq-eqb, ne_eqb}
use Rattle.std.proofs.Math.Bool.{true, false}
use mathlib.Core.List.{List, [], ◌∷◌}
use Rattle.std.proofs.Math.Option.{some, none-ne-some, some-injective}
use native.Mathlib.Omega.{arith}
use Rattle.std.proofs.Math.Nat.{mul-le-mul_left, le_trans}
use Rattle.std.proofs.Math.ListN.{get_elem?}
use Rattle.std.proofs.Math.Dec.{leb, ltb, eqb}
use Rattle.model.specs.Words.{All, filter}
use Rattle.model.specs.Total.{total}
use Rattle.model.specs.Orders.{Flow}
use Rattle.model.specs.Run.{Frame, Sends, window, bytes_of, Conforming}
use Rattle.model.specs.Gate.{Gate, GateAnswer, time_passed, tokens_of, full_of, gate_with, tokens_at, no_gate, open_gate, full_gate}
use Rattle.model.specs.Offers.{Offer, reading_at, NotBack, answer_to, offer_codes, with_code, passed, flow_gate, frames_at, behind_gate, BehindGates}
use Rattle.model.proofs.Laws.Test.{cond-le}
use Rattle.model.proofs.Laws.All.{map-all, filter-all, all-imp}
use Rattle.model.proofs.Laws.Total.{total-map, total-filter}
use Rattle.model.proofs.Laws.Run.Windows.{window-mono, window-zero, window-at, window-total, window-ext}
use Rattle.model.proofs.Laws.Gate.{dropped, taken, time-most, length-bounds, offer-cases, opening-cases}

-- From an earlier time they don't go back either.
pub not-back-from : (from later : ℕ) (os : List Offer) → from ≤ later → NotBack later os → NotBack from os
not-back-from from later [] h b = tt
not-back-from from later (o ∷ os) h b = (le_trans h b.0, b.1)

-- What passes of an offer with this answer, and of those after it.
abbrev pub passed_by : Offer → List Offer → GateAnswer → List Offer
passed_by o os a = cond (eqb a.code 0) (o ∷ passed os (offer_codes a.gate os)) (passed os (offer_codes a.gate os))

-- Any measure of the offers that counts none after `until`, and of a frame no more than its bytes.
module _ (w : Offer → ℕ) (until : ℕ) (most : (o : Offer) → w o ≤ o.length) (past : (o : Offer) → until < o.time → w o ≡ 0) where
  none-past : (test : ℕ → Bool) (from : ℕ) (os : List Offer) (cs : List ℕ) → until < from → NotBack from os → total w (with_code test os cs) ≡ 0
  unfolding with_code total
  none-past test from [] cs h b = refl
  none-past test from (o ∷ os) [] h b = refl
  none-past test from (o ∷ os) (c ∷ cs) h b =
      go (test c) (none-past test o.time os cs (omega (arith, b.0)) b.1) (past o (omega (arith, b.0)))
    where
      go : (t : Bool) → total w (with_code test os cs) ≡ 0 → w o ≡ 0 → total w (cond t (o ∷ with_code test os cs) (with_code test os cs)) ≡ 0
      go true ih z = omega arith
      go false ih z = ih

  -- From a stored reading on, no more than the tokens there and those added by rate.
  from-stored : (g : Gate) (last : ℕ) (os : List Offer) → g.reading ≡ reading_at last → last ≤ until → NotBack last os
      → 8000 * total w (passed os (offer_codes g os)) + g.rate * last ≤ g.tokens + g.rate * until
  unfolding with_code total offer_codes answer_to gate_with tokens_at tokens_of
  from-stored g last [] e h b = omega (arith, mul-le-mul_left g.rate h)
  from-stored g last (o ∷ os) e h b = go (leb o.time until) refl (λ g' last'. from-stored g' last' os)
    where
      seen : g.rate * (time_passed g.reading (reading_at o.time) + last) ≤ g.rate * o.time
      seen = mul-le-mul_left g.rate (subst (λ r. time_passed r (reading_at o.time) + last ≤ o.time) (sym e) (time-most last o.time b.0))

      go : (t : Bool) → leb o.time until ≡ t
          → ((g' : Gate) (last' : ℕ) → g'.reading ≡ reading_at last' → last' ≤ until → NotBack last' os → 8000 * total w (passed os (offer_codes g' os)) + g'.rate * last' ≤ g'.tokens + g'.rate * until)
          → 8000 * total w (passed (o ∷ os) (offer_codes g (o ∷ os))) + g.rate * last ≤ g.tokens + g.rate * until
      go false k ih =
          omega (arith, none-past (λ c. eqb c 0) o.time (o ∷ os) (offer_codes g (o ∷ os)) (leb-false _ _ k) (le_refl o.time, b.1), mul-le-mul_left g.rate h)
      go true k ih =
          offer-cases g o.length (reading_at o.time)
          (λ a. 8000 * total w (passed_by o os a) + g.rate * last ≤ g.tokens + g.rate * until)
          (λ r. ih g last e h (not-back-from last o.time os b.0 b.1))
          (λ r f. ih g last e h (not-back-from last o.time os b.0 b.1))
          (λ r f d. omega (arith, ih (dropped g (reading_at o.time)) o.time refl (leb-true _ _ k) b.1, seen))
          (λ r f d. omega (arith, ih (taken g o.length (reading_at o.time)) o.time refl (leb-true _ _ k) b.1, seen, most o))

  -- Over the times from `from` on, before which nothing counts, no more than the burst and what the rate adds.
  module _ (from : ℕ) (ordered : from ≤ until) (early : (o : Offer) → o.time < from → w o ≡ 0) where
    over-window : (g : Gate) (last : ℕ) (os : List Offer) → NotBack last os
        → 8000 * total w (passed os (offer_codes g os)) + g.rate * from ≤ full_of g + g.rate * until
    unfolding with_code total offer_codes answer_to gate_with tokens_at tokens_of
    over-window g last [] b = omega (arith, mul-le-mul_left g.rate ordered)
    over-window g last (o ∷ os) b = go (ltb o.time from) (leb o.time until) refl refl (λ g'. over-window g' o.time os b.1)
      where
        go : (s t : Bool) → ltb o.time from ≡ s → leb o.time until ≡ t
            → ((g' : Gate) → 8000 * total w (passed os (offer_codes g' os)) + g'.rate * from ≤ 8000 * g'.burst + g'.rate * until)
            → 8000 * total w (passed (o ∷ os) (offer_codes g (o ∷ os))) + g.rate * from ≤ 8000 * g.burst + g.rate * until
        go s false j k ih =
            omega (arith, none-past (λ c. eqb c 0) o.time (o ∷ os) (offer_codes g (o ∷ os)) (leb-false _ _ k) (le_refl o.time, b.1), mul-le-mul_left g.rate ordered)
        go true true j k ih =
            offer-cases g o.length (reading_at o.time)
            (λ a. 8000 * total w (passed_by o os a) + g.rate * from ≤ 8000 * g.burst + g.rate * until)
            (λ r. ih g)
            (λ r f. ih g)
            (λ r f d. ih (dropped g (reading_at o.time)))
            (λ r f d. omega (arith, ih (taken g o.length (reading_at o.time)), early o (ltb-true _ _ j)))
        go false true j k ih =
            let after : g.rate * from ≤ g.rate * o.time = mul-le-mul_left g.rate (ltb-false o.time from j) in
            offer-cases g o.length (reading_at o.time)
            (λ a. 8000 * total w (passed_by o os a) + g.rate * from ≤ 8000 * g.burst + g.rate * until)
            (λ r. ih g)
            (λ r f. ih g)
            (λ r f d. omega (arith, from-stored (dropped g (reading_at o.time)) o.time os refl (leb-true _ _ k) b.1, after))
            (λ r f d. omega (arith, from-stored (taken g o.length (reading_at o.time)) o.time os refl (leb-true _ _ k) b.1, after, most o))

-- What an offer counts at an instant, and over instants s to s + t.
unfoldable counts_at : (start x : ℕ) → Offer → ℕ
counts_at start x o = cond (eqb o.time (start + x)) o.length 0

bytes_counted : (j start : ℕ) (os : List Offer) (x : ℕ) → bytes_of j (frames_at j start os x) ≡ total (counts_at start x) os
unfolding bytes_of frames_at counts_at
bytes_counted j start os x =
    total-map (λ o. record { flow = j; hop = 0; length = o.length; since = x; born = x }) (λ f. cond (eqb f.flow j) f.length 0) (filter (λ o. eqb o.time (start + x)) os)
    ∙ rw (eq-eqb j j refl) (total-filter (λ o. o.length) (λ o. eqb o.time (start + x)) os)

counts-elsewhere : (start x : ℕ) (o : Offer) → (o.time ≡ start + x → ⊥) → counts_at start x o ≡ 0
unfolding counts_at
counts-elsewhere start x o h = rw (ne_eqb o.time (start + x) h)

module _ (start s t : ℕ) where
  unfoldable counts : Offer → ℕ
  counts o = window (λ x. counts_at start x o) s (suc t)

  counts-most : (o : Offer) → counts o ≤ o.length
  unfolding counts counts_at
  counts-most o =
      le_trans (window-at (λ x. counts_at start x o) (o.time - start) s (suc t) (λ x h. counts-elsewhere start x o (λ e. h (omega arith)))) (cond-le (eqb o.time (start + (o.time - start))) o.length)

  counts_past : (o : Offer) → start + (s + t) < o.time → counts o ≡ 0
  unfolding counts
  counts_past o h = window-zero (λ x. counts_at start x o) s (suc t) (λ x l u. counts-elsewhere start x o (λ e. absurd (omega arith)))

  counts-early : (o : Offer) → o.time < start + s → counts o ≡ 0
  unfolding counts
  counts-early o h = window-zero (λ x. counts_at start x o) s (suc t) (λ x l u. counts-elsewhere start x o (λ e. absurd (omega arith)))

  -- Of any gate, in range or not.
  gate-window : (j : ℕ) (g : Gate) (last : ℕ) (os : List Offer) → NotBack last os
      → 8000 * window (λ x. bytes_of j (frames_at j start (passed os (offer_codes g os)) x)) s (suc t) ≤ full_of g + g.rate * t
  unfolding counts
  gate-window j g last os b =
      let ps = passed os (offer_codes g os) in
      let e : window (λ x. bytes_of j (frames_at j start ps x)) s (suc t) ≡ total counts ps =
      window-ext (λ x. bytes_of j (frames_at j start ps x)) (λ x. total (counts_at start x) ps) s (suc t) (bytes_counted j start ps)
      ∙ window-total (counts_at start) ps s (suc t) in
      omega (arith, over-window counts (start + (s + t)) counts-most counts_past (start + s) (omega arith) counts-early g last os b)

-- Of the gate of a flow, opened or refused.
behind-window : (j : ℕ) (f : Flow) (opened start : ℕ) (os : List Offer) → NotBack opened os → (s t : ℕ)
    → 8000 * window (λ x. bytes_of j (behind_gate j f opened start os x)) s (suc t) ≤ 8000 * f.burst + f.rate * t
unfolding open_gate tokens_of no_gate
behind-window j f opened start os b s t =
    opening-cases (full_gate f.rate f.burst f.frame (reading_at opened))
    (λ a. 8000 * window (λ x. bytes_of j (frames_at j start (passed os (offer_codes a.gate os)) x)) s (suc t) ≤ 8000 * f.burst + f.rate * t)
    (λ e. omega (arith, gate-window start s t j no_gate opened os b))
    (λ e. gate-window start s t j (full_gate f.rate f.burst f.frame (reading_at opened)) opened os b)

-- One flow behind its gate conforms; so do all behind theirs.
pub one-conforms : (f : Flow) (opened start : ℕ) (os : List Offer) → NotBack opened os → Conforming (f ∷ []) (behind_gate 0 f opened start os)
one-conforms f opened start os b = record { bound = bound }
  where
    bound : (j : ℕ) (f' : Flow) → get_elem? (f ∷ []) j ≡ some f' → (s t : ℕ)
        → 8000 * window (λ x. bytes_of j (behind_gate 0 f opened start os x)) s (suc t) ≤ 8000 * f'.burst + f'.rate * t
    bound zero f' e s t =
        subst (λ (k : Flow). 8000 * window (λ x. bytes_of 0 (behind_gate 0 f opened start os x)) s (suc t) ≤ 8000 * k.burst + k.rate * t) (some-injective _ _ e)
        (behind-window 0 f opened start os b s t)
    bound (suc j) f' e s t = absurd (none-ne-some _ e)

pub all-conform : (fs : List Flow) (sent : ℕ → List Frame) → BehindGates fs sent → Conforming fs sent
all-conform fs sent b = record { bound = bound }
  where
    bound : (j : ℕ) (f : Flow) → get_elem? fs j ≡ some f → (s t : ℕ) → 8000 * window (λ x. bytes_of j (sent x)) s (suc t) ≤ 8000 * f.burst + f.rate * t
    bound j f e s t =
        let os = b.offers j (s + t) in
        omega (
          arith,
          window-mono (λ x. bytes_of j (sent x)) (λ x. bytes_of j (behind_gate j f (b.opened j) (b.start j) os x)) s (suc t) (λ x l u. b.adds j f e (s + t) x (omega arith)),
          behind-window j f (b.opened j) (b.start j) os (b.not_back j (s + t)) s t,
        )

-- What passes has 84 bytes to the gate's largest.
abbrev Fits : (frame : ℕ) → Offer → Type 0
Fits frame o = (84 ≤ o.length) × (o.length ≤ frame)

fits-passed : (g : Gate) (os : List Offer) → All (Fits g.frame) (passed os (offer_codes g os))
unfolding with_code offer_codes answer_to gate_with
fits-passed g [] = tt
fits-passed g (o ∷ os) = go (λ g'. fits-passed g' os)
  where
    go : ((g' : Gate) → All (Fits g'.frame) (passed os (offer_codes g' os)))
        → All (Fits g.frame) (passed (o ∷ os) (offer_codes g (o ∷ os)))
    go ih =
        offer-cases g o.length (reading_at o.time)
        (λ a. All (Fits g.frame) (passed_by o os a))
        (λ r. ih g)
        (λ r f. ih g)
        (λ r f d. ih (dropped g (reading_at o.time)))
        (λ r f d. (length-bounds g o.length f, ih (taken g o.length (reading_at o.time))))

pub behind-sends : (fs : List Flow) (j : ℕ) (f : Flow) → get_elem? fs j ≡ some f → (opened start : ℕ) (os : List Offer) (x : ℕ)
    → All (Sends fs x) (behind_gate j f opened start os x)
unfolding open_gate frames_at no_gate
behind-sends fs j f e opened start os x =
    let ps = passed os (offer_codes (flow_gate f opened) os) in
    map-all (Sends fs x) frame (filter (λ o. eqb o.time (start + x)) ps) (all-imp (filter (λ o. eqb o.time (start + x)) ps) sends (filter-all (Fits f.frame) (λ o. eqb o.time (start + x)) ps fits))
  where
    frame : Offer → Frame
    frame o = record { flow = j; hop = 0; length = o.length; since = x; born = x }

    sends : (o : Offer) → Fits f.frame o × (eqb o.time (start + x) ≡ true) → Sends fs x (frame o)
    sends o p = record { flow = f; known = e; first = refl; least = p.0.0; most = p.0.1; since = refl; born = refl }

    fits : All (Fits f.frame) (passed os (offer_codes (flow_gate f opened) os))
    fits =
        opening-cases (full_gate f.rate f.burst f.frame (reading_at opened))
        (λ a. All (Fits f.frame) (passed os (offer_codes a.gate os)))
        (λ r. all-imp {P = Fits 0} {Q = Fits f.frame} (passed os (offer_codes no_gate os)) (λ o p. (p.0, omega (arith, p.1))) (fits-passed no_gate os))
        (λ r. fits-passed (full_gate f.rate f.burst f.frame (reading_at opened)) os)
