-- What a gate answers, and when: an offer and an opening by their cases, their codes, what is refused and what is then left, that its numbers stay in range, and the time that it sees.
-- Test by test. Assumes nothing.
use Rattle.std.specs.Prelude.{ℕ, ◌+◌, ◌-◌, ◌*◌, ◌%◌, ◌≤◌, ◌<◌, min, ◌≡◌, refl, Bool, true, false, cond, ◌&&◌, ◌↔◌, leb, ltb}
use Rattle.std.proofs.Common.{sym, ap, ◌∙◌, true≢false, arith, leb-true, leb-false, le-leb, ltb-false}
use mathlib.Core.List.{List, Memᴰ}
use Rattle.model.specs.Columns.{between}
use Rattle.model.specs.QueueTable.{Table}
use Rattle.model.specs.Orders.{Flow, rate_in_range, burst_in_range, frame_in_range, number_in_range, head_in_range, hops_in_range}
use Rattle.model.specs.Reference.{line_findings}
use Rattle.model.specs.Consistent.{head_of, flow_in_range}
use Rattle.model.specs.Codes.{gate_open_codes, gate_offer_codes}
use Rattle.model.specs.Gate.{Gate, GateAnswer, turn, time_passed, tokens_of, full_of, gate_in_range, length_in_range, gate_with, tokens_at, metered, offer, no_gate, opened_with, full_gate, open_gate}
use Rattle.model.specs.Offers.{reading_at, NotRefused}
use Rattle.model.proofs.Laws.Test.{and_both, both-and}
use Rattle.model.proofs.Laws.All.{member-at}
use Rattle.model.proofs.Laws.Columns.{between-true}
use Rattle.model.proofs.Laws.Finding.{whole-none}
use Rattle.model.proofs.Laws.Consistent.{FlowRules}

-- The time seen between two readings is the true one, whole turns aside.
time-seen : (last d : ℕ) → time_passed (reading_at last) (reading_at (last + d)) ≡ d % turn
unfolding time_passed reading_at
time-seen last d = omega arith

-- So it is never more than passed, and less than one turn is seen exactly.
pub time-most : (last now : ℕ) → last ≤ now → time_passed (reading_at last) (reading_at now) + last ≤ now
unfolding time_passed reading_at
time-most last now h = omega arith

pub time-exact : (last now : ℕ) → last ≤ now → now < last + turn → time_passed (reading_at last) (reading_at now) + last ≡ now
unfolding time_passed reading_at
time-exact last now h k = omega arith

pub tokens-seen : (g : Gate) (last d : ℕ) → g.reading ≡ reading_at last → tokens_at g (reading_at (last + d)) ≡ min (full_of g) (g.tokens + g.rate * (d % turn))
unfolding tokens_at
tokens-seen g last d e =
    ap (λ r. min (full_of g) (g.tokens + g.rate * time_passed r (reading_at (last + d)))) e
    ∙ ap (λ r. min (full_of g) (g.tokens + g.rate * r)) (time-seen last d)

-- What the range of a gate (61) and of a frame (60) say.
pub record GateBounds (g : Gate) : Type 0 where
  pub rate : (1 ≤ g.rate) × (g.rate ≤ 10000000)
  pub burst : (84 ≤ g.burst) × (g.burst ≤ 1000000)
  pub frame : (84 ≤ g.frame) × (g.frame ≤ 1542)
  pub holds : g.frame ≤ g.burst
  pub tokens : g.tokens ≤ full_of g

pub gate-bounds : (g : Gate) → gate_in_range g ≡ true → GateBounds g
unfolding gate_in_range
gate-bounds g e =
    let (e₁, tokens) = and_both (rate_in_range g.rate && burst_in_range g.burst && frame_in_range g.frame && leb g.frame g.burst) _ e in
    let (e₂, holds) = and_both (rate_in_range g.rate && burst_in_range g.burst && frame_in_range g.frame) _ e₁ in
    let (e₃, frame) = and_both (rate_in_range g.rate && burst_in_range g.burst) _ e₂ in
    let (rate, burst) = and_both (rate_in_range g.rate) _ e₃ in
    record {
      rate = between-true 1 10000000 g.rate rate;
      burst = between-true 84 1000000 g.burst burst;
      frame = between-true 84 1542 g.frame frame;
      holds = leb-true _ _ holds;
      tokens = leb-true _ _ tokens;
    }

pub length-bounds : (g : Gate) (n : ℕ) → length_in_range g n ≡ true → (84 ≤ n) × (n ≤ g.frame)
unfolding length_in_range
length-bounds g n e = between-true 84 g.frame n e

-- The gate that a frame leaves that is dropped, and one that passes.
abbrev pub dropped : Gate → (now : ℕ) → Gate
dropped g now = gate_with g (tokens_at g now) now

abbrev pub taken : Gate → (length now : ℕ) → Gate
taken g n now = gate_with g (tokens_at g now - tokens_of n) now

-- The four cases of an offer: what holds of the answer of each holds of the offer's.
pub offer-cases : (g : Gate) (n now : ℕ) (P : GateAnswer → Type 0)
    → (gate_in_range g ≡ false → P (record { code = 61; gate = g }))
    → (gate_in_range g ≡ true → length_in_range g n ≡ false → P (record { code = 60; gate = g }))
    → (gate_in_range g ≡ true → length_in_range g n ≡ true → tokens_at g now < tokens_of n → P (record { code = 1; gate = dropped g now }))
    → (gate_in_range g ≡ true → length_in_range g n ≡ true → tokens_of n ≤ tokens_at g now → P (record { code = 0; gate = taken g n now }))
    → P (offer g n now)
unfolding offer metered
offer-cases g n now P range fits drops passes = go (gate_in_range g) (length_in_range g n) (leb (tokens_of n) (tokens_at g now)) refl refl refl
  where
    go : (a b c : Bool) → gate_in_range g ≡ a → length_in_range g n ≡ b → leb (tokens_of n) (tokens_at g now) ≡ c
        → P (cond a (cond b (cond c (record { code = 0; gate = taken g n now }) (record { code = 1; gate = dropped g now })) (record { code = 60; gate = g })) (record { code = 61; gate = g }))
    go false b c e f h = range e
    go true false c e f h = fits e f
    go true true false e f h = drops e f (leb-false _ _ h)
    go true true true e f h = passes e f (leb-true _ _ h)

-- The two of an opening, of the full gate.
pub opening-cases : (g : Gate) (P : GateAnswer → Type 0) → (gate_in_range g ≡ false → P (record { code = 61; gate = no_gate }))
    → (gate_in_range g ≡ true → P (record { code = 0; gate = g }))
    → P (opened_with g)
unfolding opened_with
opening-cases g P range done = go (gate_in_range g) refl
  where
    go : (b : Bool) → gate_in_range g ≡ b → P (cond b (record { code = 0; gate = g }) (record { code = 61; gate = no_gate }))
    go true e = done e
    go false e = range e

-- Each code is one of those that are listed.
pub offer-listed : (g : Gate) (n now : ℕ) → Memᴰ (offer g n now).code gate_offer_codes
offer-listed g n now =
    offer-cases g n now (λ a. Memᴰ a.code gate_offer_codes) (λ e. member-at gate_offer_codes 3 refl) (λ e f. member-at gate_offer_codes 2 refl)
    (λ e f h. member-at gate_offer_codes 1 refl)
    (λ e f h. member-at gate_offer_codes 0 refl)

pub opening-listed : (rate burst frame now : ℕ) → Memᴰ (open_gate rate burst frame now).code gate_open_codes
unfolding open_gate
opening-listed rate burst frame now =
    opening-cases (full_gate rate burst frame now) (λ a. Memᴰ a.code gate_open_codes) (λ e. member-at gate_open_codes 1 refl)
    (λ e. member-at gate_open_codes 0 refl)

-- 61 exactly where the gate is out of range; else 60 exactly where the frame is. Either leaves the gate as it was.
pub refused-61 : (g : Gate) (n now : ℕ) → ((offer g n now).code ≡ 61) ↔ (gate_in_range g ≡ false)
refused-61 g n now =
    offer-cases g n now (λ a. (a.code ≡ 61) ↔ (gate_in_range g ≡ false)) (λ e. (λ z. e, λ f. refl))
    (λ e f. (λ z. absurd (omega arith), λ k. absurd (true≢false (sym e ∙ k))))
    (λ e f h. (λ z. absurd (omega arith), λ k. absurd (true≢false (sym e ∙ k))))
    (λ e f h. (λ z. absurd (omega arith), λ k. absurd (true≢false (sym e ∙ k))))

pub refused-60 : (g : Gate) (n now : ℕ) → gate_in_range g ≡ true → ((offer g n now).code ≡ 60) ↔ (length_in_range g n ≡ false)
refused-60 g n now ok =
    offer-cases g n now (λ a. (a.code ≡ 60) ↔ (length_in_range g n ≡ false)) (λ e. absurd (true≢false (sym ok ∙ e))) (λ e f. (λ z. f, λ k. refl))
    (λ e f h. (λ z. absurd (omega arith), λ k. absurd (true≢false (sym f ∙ k))))
    (λ e f h. (λ z. absurd (omega arith), λ k. absurd (true≢false (sym f ∙ k))))

pub refused-same : (g : Gate) (n now : ℕ) → (NotRefused (offer g n now).code → ⊥) → (offer g n now).gate ≡ g
refused-same g n now =
    offer-cases g n now (λ a. (NotRefused a.code → ⊥) → a.gate ≡ g) (λ e k. refl) (λ e f k. refl)
    (λ e f h k. absurd (k (λ z. absurd (omega arith), λ z. absurd (omega arith))))
    (λ e f h k. absurd (k (λ z. absurd (omega arith), λ z. absurd (omega arith))))

-- An opening is 61 exactly where the full gate is out of range, and there is no gate then; else there is the full gate.
module _ (rate burst frame now : ℕ) where
  pub opening-61 : ((open_gate rate burst frame now).code ≡ 61) ↔ (gate_in_range (full_gate rate burst frame now) ≡ false)
  unfolding open_gate
  opening-61 =
      let g = full_gate rate burst frame now in
      opening-cases g (λ a. (a.code ≡ 61) ↔ (gate_in_range g ≡ false)) (λ e. (λ z. e, λ k. refl))
      (λ e. (λ z. absurd (omega arith), λ k. absurd (true≢false (sym e ∙ k))))

  pub opening-refused : (open_gate rate burst frame now).code ≡ 61 → (open_gate rate burst frame now).gate ≡ no_gate
  unfolding open_gate
  opening-refused =
      opening-cases (full_gate rate burst frame now) (λ a. a.code ≡ 61 → a.gate ≡ no_gate) (λ e z. refl) (λ e z. absurd (omega arith))

  pub opening-done : (open_gate rate burst frame now).code ≡ 0 → (open_gate rate burst frame now).gate ≡ full_gate rate burst frame now
  unfolding open_gate
  opening-done =
      let g = full_gate rate burst frame now in
      opening-cases g (λ a. a.code ≡ 0 → a.gate ≡ g) (λ e z. absurd (omega arith)) (λ e z. refl)

-- No gate is in no range.
pub no-gate-range : gate_in_range no_gate ≡ false
unfolding gate_in_range no_gate between
no-gate-range = refl

-- The tokens at a reading are never above full, so an offer leaves a gate in range so.
pub at-most-full : (g : Gate) (now : ℕ) → tokens_at g now ≤ full_of g
unfolding tokens_at
at-most-full g now = omega arith

pub with-ranged : (g : Gate) (tokens now : ℕ) → gate_in_range g ≡ true → tokens ≤ full_of g → gate_in_range (gate_with g tokens now) ≡ true
unfolding gate_in_range gate_with
with-ranged g tokens now e h =
    both-and (and_both (rate_in_range g.rate && burst_in_range g.burst && frame_in_range g.frame && leb g.frame g.burst) _ e).0 (le-leb _ _ h)

pub range-kept : (g : Gate) (n now : ℕ) → gate_in_range g ≡ true → gate_in_range (offer g n now).gate ≡ true
range-kept g n now ok =
    offer-cases g n now (λ a. gate_in_range a.gate ≡ true) (λ e. ok) (λ e f. ok) (λ e f h. with-ranged g _ now ok (at-most-full g now))
    (λ e f h. with-ranged g _ now ok (omega (arith, at-most-full g now)))

-- The gate of a flow that meets the rules of a registry is opened.
pub flow-opens : (t : Table) (fs : List Flow) (f : Flow) → FlowRules t fs f → (now : ℕ) → (open_gate f.rate f.burst f.frame now).code ≡ 0
unfolding open_gate opened_with gate_in_range line_findings flow_in_range head_in_range head_of number_in_range hops_in_range
flow-opens t fs f r now =
    let (head, hops) = and_both (head_in_range (head_of f)) _ r.range in
    let (e₁, deadline) = and_both (number_in_range f.number && rate_in_range f.rate && burst_in_range f.burst && frame_in_range f.frame) _ head in
    let (e₂, frame) = and_both (number_in_range f.number && rate_in_range f.rate && burst_in_range f.burst) _ e₁ in
    let (e₃, burst) = and_both (number_in_range f.number && rate_in_range f.rate) _ e₂ in
    let (number, rate) = and_both (number_in_range f.number) _ e₃ in
    let holds : leb f.frame f.burst ≡ true = le-leb f.frame f.burst (ltb-false f.burst f.frame (whole-none 17 (ltb f.burst f.frame) r.line.0)) in
    rw (rate, burst, frame, holds, le-leb (tokens_of f.burst) (tokens_of f.burst) (omega arith))
