-- Which frames pass a gate: one that isn't refused, before any has passed, or once the last that passed is ceil(8000 × n / rate) µs ago, drops in between or not.
-- The bucket is full, or has what the rate added since, where each time between stored readings is seen exactly. By induction on the offers. Assumes nothing.
use Prim.Native.Nat.{ℕ, ◌+◌, ◌-◌, ◌*◌, ◌≤◌, ◌<◌, min}
use Rattle.std.specs.Prelude.{◌≡◌, refl, true, false, cond, leb}
use Rattle.std.proofs.Common.{sym, ap, subst, ◌∙◌, arith, mul-le-mul_left, le_refl, le_trans}
use mathlib.Core.List.{List, [], ◌∷◌, ◌++◌}
use Rattle.std.proofs.Math.Option.{Option, none, some, some-ne-none, some-injective}
use Rattle.model.specs.Formula.{ceil_div}
use Rattle.model.specs.Gate.{Gate, turn, time_passed, tokens_of, full_of, gate_in_range, length_in_range, gate_with, tokens_at, no_gate, full_gate, open_gate}
use Rattle.model.specs.Offers.{Offer, reading_at, NotBack, answer_to, offer_codes, after_offers, with_code, passed, stored, NotRefused, last_time, WithinTurns}
use Rattle.model.proofs.Laws.Formula.{le-ceil_div}
use Rattle.model.proofs.Laws.Gate.{dropped, taken, time-exact, gate-bounds, length-bounds, offer-cases, opening-cases, no-gate-range, at-most-full, with-ranged, refused-61, refused-same, range-kept}
use Rattle.model.proofs.Laws.Offers.{passed_by, not-back-from}

-- Where the gate is out of range, every offer is refused.
unranged-after : (g : Gate) (os : List Offer) → gate_in_range g ≡ false → after_offers g os ≡ g
unfolding after_offers answer_to
unranged-after g [] e = refl
unranged-after g (o ∷ os) e = ap (λ g'. after_offers g' os) (refused-same g o.length (reading_at o.time) (λ n. n.1 ((refused-61 g o.length (reading_at o.time)).1 e))) ∙ unranged-after g os e

unranged-refused : (g : Gate) (os : List Offer) (o : Offer) → gate_in_range g ≡ false → NotRefused (answer_to (after_offers g os) o).code → ⊥
unfolding answer_to
unranged-refused g os o e n = n.1 ((refused-61 (after_offers g os) o.length (reading_at o.time)).1 (ap gate_in_range (unranged-after g os e) ∙ e))

-- One that isn't refused passes where its tokens are there.
passes-with : (g : Gate) (o : Offer) → NotRefused (answer_to g o).code → (length_in_range g o.length ≡ true → tokens_of o.length ≤ tokens_at g (reading_at o.time))
    → (answer_to g o).code ≡ 0
unfolding answer_to
passes-with g o =
    offer-cases g o.length (reading_at o.time)
    (λ a. NotRefused a.code → (length_in_range g o.length ≡ true → tokens_of o.length ≤ tokens_at g (reading_at o.time)) → a.code ≡ 0)
    (λ r n h. absurd (n.1 refl))
    (λ r f n h. absurd (n.0 refl))
    (λ r f d n h. absurd (omega (arith, h f)))
    (λ r f d n h. refl)

-- A full bucket has the tokens of every frame in range.
full-there : (g : Gate) (n now : ℕ) → gate_in_range g ≡ true → length_in_range g n ≡ true → full_of g ≤ g.tokens → tokens_of n ≤ tokens_at g now
unfolding tokens_at tokens_of
full-there g n now e f h = let b = gate-bounds g e in omega (arith, b.holds, (length-bounds g n f).1)

last_none : (o : Offer) (os : List Offer) → last_time (o ∷ os) ≡ none → ⊥
unfolding last_time
last_none o [] e = some-ne-none _ e
last_none o (p ∷ os) e = last_none p os e

-- Before any has passed the gate is full.
abbrev First : Offer → Gate → List Offer → Type 0
First o g os =
    gate_in_range g ≡ true → full_of g ≤ g.tokens → last_time (passed os (offer_codes g os)) ≡ none → NotRefused (answer_to (after_offers g os) o).code
    → (answer_to (after_offers g os) o).code ≡ 0

first_passes : (g : Gate) (os : List Offer) (o : Offer) → First o g os
unfolding with_code offer_codes after_offers answer_to
first_passes g [] o ok full l n = passes-with g o n (λ f. full-there g o.length (reading_at o.time) ok f full)
first_passes g (p ∷ os) o ok full l n = go l n (λ g'. first_passes g' os o)
  where
    go : last_time (passed (p ∷ os) (offer_codes g (p ∷ os))) ≡ none → NotRefused (answer_to (after_offers (answer_to g p).gate os) o).code
        → ((g' : Gate) → First o g' os)
        → (answer_to (after_offers (answer_to g p).gate os) o).code ≡ 0
    go =
        offer-cases g p.length (reading_at p.time)
        (λ a. last_time (passed_by p os a) ≡ none
        → NotRefused (answer_to (after_offers a.gate os) o).code
        → ((g' : Gate) → First o g' os)
        → (answer_to (after_offers a.gate os) o).code ≡ 0)
        (λ r l n ih. ih g ok full l n)
        (λ r f l n ih. ih g ok full l n)
        (λ r f d l n ih. absurd (omega (arith, full-there g p.length (reading_at p.time) ok f full)))
        (λ r f d l n ih. absurd (last_none p (passed os (offer_codes (taken g p.length (reading_at p.time)) os)) l))

-- When the last passed: among these, else as before them.
abbrev last_of : (before later : Option ℕ) → Option ℕ
last_of before none = before
last_of before (some p) = some p

last-any : (a b : Option ℕ) (o : Offer) (os : List Offer) → last_of a (last_time (o ∷ os)) ≡ last_of b (last_time (o ∷ os))
unfolding last_time
last-any a b o [] = refl
last-any a b o (p ∷ os) = last-any a b p os

last-next : (a : Option ℕ) (o : Offer) (os : List Offer) → last_of a (last_time (o ∷ os)) ≡ last_of (some o.time) (last_time os)
unfolding last_time
last-next a o [] = refl
last-next a o (p ∷ os) = last-any a (some o.time) p os

-- At the reading of a true time the bucket is full, or has what the rate added since the last that passed.
abbrev Since : Gate → (time : ℕ) (last : Option ℕ) → Type 0
Since g time none = full_of g ≤ g.tokens
Since g time (some p) = (p ≤ time) × (min (full_of g) (g.rate * time - g.rate * p) ≤ g.tokens)

-- So it is at a later one that is seen exactly.
since-later : (g : Gate) (time now : ℕ) (last : Option ℕ) → g.reading ≡ reading_at time → time ≤ now → now < time + turn → Since g time last
    → Since (dropped g (reading_at now)) now last
unfolding gate_with tokens_at
since-later g time now none e h k s = omega arith
since-later g time now (some p) e h k s =
    let seen : time_passed g.reading (reading_at now) + time ≡ now = subst (λ r. time_passed r (reading_at now) + time ≡ now) (sym e) (time-exact time now h k) in
    let added : g.rate * (time_passed g.reading (reading_at now) + time) ≡ g.rate * now = ap (λ z. g.rate * z) seen in
    (le_trans s.0 h, omega (arith, s.1, mul-le-mul_left g.rate s.0))

-- The tokens of a frame that has waited are there.
waited-there : (g : Gate) (time n : ℕ) (last : Option ℕ) → gate_in_range g ≡ true → length_in_range g n ≡ true → Since g time last
    → ((p : ℕ) → last ≡ some p → p + ceil_div (tokens_of n) g.rate ≤ time)
    → tokens_of n ≤ g.tokens
unfolding tokens_of
waited-there g time n none ok f s ready = omega (arith, (gate-bounds g ok).holds, (length-bounds g n f).1)
waited-there g time n (some p) ok f s ready =
    let c : ℕ = ceil_div (8000 * n) g.rate in
    let enough : 8000 * n ≤ c * g.rate = le-ceil_div (8000 * n) g.rate c (gate-bounds g ok).rate.0 (le_refl c) in
    omega (arith, (gate-bounds g ok).holds, (length-bounds g n f).1, mul-le-mul_left g.rate (ready p refl), s.1)

module _ (o : Offer) where
  -- An offer after those before it.
  last-passes : (g : Gate) (time : ℕ) (last : Option ℕ) → gate_in_range g ≡ true → g.reading ≡ reading_at time → Since g time last → time ≤ o.time
      → ((p : ℕ) → last ≡ some p → p + ceil_div (tokens_of o.length) g.rate ≤ o.time)
      → WithinTurns time (stored (o ∷ []) (offer_codes g (o ∷ [])))
      → NotRefused (answer_to g o).code
      → (answer_to g o).code ≡ 0
  unfolding with_code offer_codes answer_to gate_with length_in_range
  last-passes g time last ok e s h ready =
      offer-cases g o.length now (λ a. WithinTurns time (cond (leb a.code 1) (o ∷ []) []) → NotRefused a.code → a.code ≡ 0) (λ r w n. absurd (n.1 refl))
      (λ r f w n. absurd (n.0 refl))
      (λ r f d w n. absurd (omega (arith, waited-there later o.time o.length last (with-ranged g (tokens_at g now) now ok (at-most-full g now)) f (since-later g time o.time last e h w.0 s) ready)))
      (λ r f d w n. refl)
    where
      now : ℕ
      now = reading_at o.time

      later : Gate
      later = dropped g now

  -- It passes after any offers, from any gate in range on.
  abbrev Goes : Gate → (time : ℕ) (last : Option ℕ) → List Offer → Type 0
  Goes g time last os =
      gate_in_range g ≡ true → g.reading ≡ reading_at time → Since g time last → NotBack time (os ++ (o ∷ []))
      → WithinTurns time (stored (os ++ (o ∷ [])) (offer_codes g (os ++ (o ∷ []))))
      → NotRefused (answer_to (after_offers g os) o).code
      → ((p : ℕ) → last_of last (last_time (passed os (offer_codes g os))) ≡ some p → p + ceil_div (tokens_of o.length) g.rate ≤ o.time)
      → (answer_to (after_offers g os) o).code ≡ 0

  goes : (g : Gate) (time : ℕ) (last : Option ℕ) (os : List Offer) → Goes g time last os
  unfolding with_code offer_codes after_offers answer_to gate_with last_time
  goes g time last [] ok e s b = λ w n ready. last-passes g time last ok e s b.0 ready w n
  goes g time last (p ∷ os) ok e s b = go (λ g' time' last'. goes g' time' last' os)
    where
      now : ℕ
      now = reading_at p.time

      more : List Offer
      more = os ++ (o ∷ [])

      go : ((g' : Gate) (time' : ℕ) (last' : Option ℕ) → Goes g' time' last' os) → WithinTurns time (stored (p ∷ more) (offer_codes g (p ∷ more)))
          → NotRefused (answer_to (after_offers g (p ∷ os)) o).code
          → ((q : ℕ) → last_of last (last_time (passed (p ∷ os) (offer_codes g (p ∷ os)))) ≡ some q → q + ceil_div (tokens_of o.length) g.rate ≤ o.time)
          → (answer_to (after_offers g (p ∷ os)) o).code ≡ 0
      go ih =
          offer-cases g p.length now
          (λ a. WithinTurns time (cond (leb a.code 1) (p ∷ stored more (offer_codes a.gate more)) (stored more (offer_codes a.gate more)))
          → NotRefused (answer_to (after_offers a.gate os) o).code
          → ((q : ℕ) → last_of last (last_time (passed_by p os a)) ≡ some q → q + ceil_div (tokens_of o.length) g.rate ≤ o.time)
          → (answer_to (after_offers a.gate os) o).code ≡ 0)
          (λ r w n ready. ih g time last ok e s (not-back-from time p.time more b.0 b.1) w n ready)
          (λ r f w n ready. ih g time last ok e s (not-back-from time p.time more b.0 b.1) w n ready)
          (λ r f d w n ready. ih (dropped g now) p.time last (with-ranged g (tokens_at g now) now ok (at-most-full g now)) refl
          (since-later g time p.time last e b.0 w.0 s)
          b.1
          w.1
          n
          ready)
          (λ r f d w n ready. ih (taken g p.length now) p.time (some p.time) (with-ranged g (tokens_at g now - tokens_of p.length) now ok (omega (arith, at-most-full g now))) refl
          (le_refl p.time, omega arith)
          b.1
          w.1
          n
          (λ q k. ready q (last-next last p (passed os (offer_codes (taken g p.length now) os)) ∙ k)))

-- Since a frame passed at p, whatever was before.
pub passes-since : (g : Gate) (p : ℕ) (os : List Offer) (o : Offer) → gate_in_range g ≡ true → g.reading ≡ reading_at p → NotBack p (os ++ (o ∷ []))
    → WithinTurns p (stored (os ++ (o ∷ [])) (offer_codes g (os ++ (o ∷ []))))
    → NotRefused (answer_to (after_offers g os) o).code
    → last_time (passed os (offer_codes g os)) ≡ none
    → p + ceil_div (tokens_of o.length) g.rate ≤ o.time
    → (answer_to (after_offers g os) o).code ≡ 0
passes-since g p os o ok e b w n l h =
    goes o g p (some p) os ok e (le_refl p, omega arith) b w n
    (λ q k. subst (λ z. z + ceil_div (tokens_of o.length) g.rate ≤ o.time) (some-injective _ _ (sym (ap (last_of (some p)) l) ∙ k)) h)

-- A gate stays in range.
pub range-after : (g : Gate) (os : List Offer) → gate_in_range g ≡ true → gate_in_range (after_offers g os) ≡ true
unfolding after_offers answer_to
range-after g [] ok = ok
range-after g (o ∷ os) ok = range-after (answer_to g o).gate os (range-kept g o.length (reading_at o.time) ok)

-- From one opening on.
pub opened-first : (rate burst frame now : ℕ) (os : List Offer) (o : Offer) → let g = (open_gate rate burst frame now).gate in
    last_time (passed os (offer_codes g os)) ≡ none → NotRefused (answer_to (after_offers g os) o).code → (answer_to (after_offers g os) o).code ≡ 0
unfolding open_gate
opened-first rate burst frame now os o =
    opening-cases (full_gate rate burst frame now)
    (λ a. last_time (passed os (offer_codes a.gate os)) ≡ none → NotRefused (answer_to (after_offers a.gate os) o).code → (answer_to (after_offers a.gate os) o).code ≡ 0)
    (λ r l n. absurd (unranged-refused no_gate os o no-gate-range n))
    (λ r l n. first_passes (full_gate rate burst frame now) os o r (le_refl (tokens_of burst)) l n)

pub opened-again : (rate burst frame opened : ℕ) (os : List Offer) (o : Offer) → let g = (open_gate rate burst frame (reading_at opened)).gate in
    let all = os ++ (o ∷ []) in
    NotBack opened all → WithinTurns opened (stored all (offer_codes g all)) → NotRefused (answer_to (after_offers g os) o).code
    → (p : ℕ) → last_time (passed os (offer_codes g os)) ≡ some p → p + ceil_div (tokens_of o.length) rate ≤ o.time
    → (answer_to (after_offers g os) o).code ≡ 0
unfolding open_gate
opened-again rate burst frame opened os o b =
    let full = full_gate rate burst frame (reading_at opened) in
    let all = os ++ (o ∷ []) in
    opening-cases full
    (λ a. WithinTurns opened (stored all (offer_codes a.gate all)) → NotRefused (answer_to (after_offers a.gate os) o).code
    → (p : ℕ) → last_time (passed os (offer_codes a.gate os)) ≡ some p → p + ceil_div (tokens_of o.length) rate ≤ o.time
    → (answer_to (after_offers a.gate os) o).code ≡ 0)
    (λ r w n p l h. absurd (unranged-refused no_gate os o no-gate-range n))
    (λ r w n p l h. goes o full opened none os r refl (le_refl (tokens_of burst)) b w n (λ q k. subst (λ z. z + ceil_div (tokens_of o.length) rate ≤ o.time) (some-injective _ _ (sym (ap (last_of none) l) ∙ k)) h))
