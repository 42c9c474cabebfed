-- The promises of `Gates`, from the contracts and the facts of the model. Assumes nothing.
use Rattle.std.specs.Prelude.{ℕ, ◌≤◌, ◌≡◌, refl, false, ◌↔◌, Result}
use Rattle.std.proofs.Common.{sym, subst}
use mathlib.Core.List.{List, [], ◌∷◌, Memᴰ}
use Rattle.std.proofs.Math.Option.{Option, none, some}
use Rattle.std.proofs.Math.ListN.{get_elem?}
use Rattle.model.specs.QueueTable.{Queue}
use Rattle.model.specs.Orders.{Hop, Flow}
use Rattle.model.specs.Aggregates.{queue_at}
use Rattle.model.specs.Reference.{Call}
use Rattle.model.specs.Run.{Frame, Run, bytes_of}
use Rattle.model.specs.Punctual.{Punctual}
use Rattle.model.specs.Codes.{gate_open_codes, gate_offer_codes}
use Rattle.model.specs.Gate as model
use Rattle.model.specs.Gate.{gate_in_range, length_in_range, no_gate, full_gate, open_gate}
use Rattle.model.specs.Offers.{Offer, reading_at, answer_to, offer_codes, after_offers, passed, NotRefused, flow_gate, frames_at, BehindGates}
use Rattle.model.proofs.Laws.Gate as gate
use Rattle.model.proofs.Results.{gates-conform}
use Rattle.causes.specs.declared.Cause.{Cause}
use Rattle.registry.specs.declared.Registry.{Registry}
use Rattle.registry.specs.declared.Opened.{Opened}
use Rattle.registry.specs.View.{OpensOn}
use Rattle.registry.specs.Claim.{Chain, after, flows_after}
use Rattle.registry.specs.ClaimLaws as registry
use Rattle.sender_gate.specs.declared.Gate.{Gate}
use Rattle.sender_gate.specs.declared.GateAnswer.{GateAnswer}
use Rattle.sender_gate.specs.View.{gate_of, answer_of, Opens, Offers}
use Rattle.sender_gate.specs.Claim as one-gate
use Rattle.sender_gate.specs.ClaimLaws.{claim-codes}
use Rattle.promises.specs.Gates.{OpeningListed, OfferListed, SourcesGated}

-- What holds of the model's answer holds of the code's.
module _ {a : GateAnswer} {m : model.GateAnswer} (same : answer_of a ≡ m) (P : model.GateAnswer → Type 0) where
  from-model : P m → P (answer_of a)
  from-model p = subst P (sym same) p

pub opening-listed : (rate burst frame now : ℕ) {a : GateAnswer} → Opens rate burst frame now a → OpeningListed rate burst frame now a
opening-listed rate burst frame now e =
    record {
      code = from-model e (λ x. Memᴰ x.code gate_open_codes) (gate.opening-listed rate burst frame now);
      out_of_range = from-model e (λ x. (x.code ≡ 61) ↔ (gate_in_range (full_gate rate burst frame now) ≡ false)) (gate.opening-61 rate burst frame now);
      refused = from-model e (λ x. x.code ≡ 61 → x.gate ≡ no_gate) (gate.opening-refused rate burst frame now);
      opened = from-model e (λ x. x.code ≡ 0 → x.gate ≡ full_gate rate burst frame now) (gate.opening-done rate burst frame now);
    }

pub offer-listed : (before : Gate) (length now : ℕ) {a : GateAnswer} → Offers before length now a → OfferListed before length now a
offer-listed before length now e =
    let g = gate_of before in
    record {
      code = from-model e (λ x. Memᴰ x.code gate_offer_codes) (gate.offer-listed g length now);
      gate_out = from-model e (λ x. (x.code ≡ 61) ↔ (gate_in_range g ≡ false)) (gate.refused-61 g length now);
      frame_out = λ ok. from-model e (λ x. (x.code ≡ 60) ↔ (length_in_range g length ≡ false)) (gate.refused-60 g length now ok);
      unchanged = from-model e (λ x. (NotRefused x.code → ⊥) → x.gate ≡ g) (gate.refused-same g length now);
    }

-- Gates of the code are the model's, so what is sent behind them conforms.
pub behind-gates : (fs : List Flow) (sent : ℕ → List Frame) → SourcesGated fs sent → BehindGates fs sent
behind-gates fs sent s =
    record {
      start = s.start;
      opened = s.opened;
      offers = s.offers;
      not_back = s.not_back;
      adds = λ j f e until x h.
          subst (λ (cs : List ℕ). bytes_of j (sent x) ≤ bytes_of j (frames_at j (s.start j) (passed (s.offers j until) cs) x)) (claim-codes (s.gated j f e until)) (s.adds j f e until x h);
    }

-- The same the other way: gates of the code can answer as the model's do, so what is asked of sources can be met wherever `BehindGates` can.
unfoldable code_gate : model.Gate → Gate
code_gate g =
    record { rate = record { 0 = g.rate }; burst = record { 0 = g.burst }; frame = record { 0 = g.frame }; tokens = record { 0 = g.tokens }; reading = g.reading }

unfoldable code_answer : model.GateAnswer → GateAnswer
code_answer a = record { gate = code_gate a.gate; code = a.code }

code-chain : (g : model.Gate) (os : List Offer) → one-gate.Chain (code_gate g) os (offer_codes g os) (code_gate (after_offers g os))
unfolding code_gate code_answer offer_codes after_offers answer_to
code-chain g [] = one-gate.end
code-chain g (o ∷ os) = one-gate.next {a = code_answer (answer_to g o)} refl (code-chain (answer_to g o).gate os)

unfoldable gate_for : Option Flow → (opened : ℕ) → model.Gate
gate_for none opened = no_gate
gate_for (some f) opened = flow_gate f opened

pub sources-gated : (fs : List Flow) (sent : ℕ → List Frame) → BehindGates fs sent → SourcesGated fs sent
unfolding code_gate code_answer gate_for
sources-gated fs sent b =
    let g : ℕ → model.Gate = λ j. gate_for (get_elem? fs j) (b.opened j) in
    record {
      start = b.start;
      opened = b.opened;
      offers = b.offers;
      codes = λ j until. offer_codes (g j) (b.offers j until);
      last = λ j until. code_gate (after_offers (g j) (b.offers j until));
      not_back = b.not_back;
      gated = λ j f e until.
          subst (λ (x : Option Flow). one-gate.Gated f (b.opened j) (b.offers j until) (offer_codes (gate_for x (b.opened j)) (b.offers j until)) (code_gate (after_offers (gate_for x (b.opened j)) (b.offers j until)))) (sym e)
          (record {
            answer = code_answer (open_gate f.rate f.burst f.frame (reading_at (b.opened j)));
            opens = refl;
            chain = code-chain (flow_gate f (b.opened j)) (b.offers j until);
          });
      adds = λ j f e until x h.
          subst (λ (o : Option Flow). bytes_of j (sent x) ≤ bytes_of j (frames_at j (b.start j) (passed (b.offers j until) (offer_codes (gate_for o (b.opened j)) (b.offers j until))) x)) (sym e) (b.adds j f e until x h);
    }

-- Mission, line 3, with gates in place of its condition on sources: after any list of calls on any table text no frame is late and no buffer exceeded.
pub late-never : (text : List ℕ) (o : Opened) → OpensOn text o → (calls : List Call) (answers : List (Result ℕ Cause)) (last : Registry) → Chain o.registry calls answers last
    → (r : Run (after text calls).table (flows_after text calls)) → SourcesGated (flows_after text calls) r.sent
    → (x : ℕ) (h : Hop) (q : Queue) → queue_at (after text calls).table h ≡ some q → Punctual (after text calls).table (flows_after text calls) r x h q
late-never text o opens calls answers last chain r s =
    (registry.claim text o opens calls answers last chain).timely.punctual r (gates-conform (flows_after text calls) r.sent (behind-gates (flows_after text calls) r.sent s))
