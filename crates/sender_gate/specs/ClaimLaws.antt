-- The claim of `Claim`: a chain of offers answers as the model does, of which `Results` has the facts. By induction on the chain. Assumes nothing.
use Rattle.std.specs.Prelude.{◌≡◌, ℕ, true, List, [], ◌∷◌, ◌++◌, refl}
use Rattle.std.proofs.Common.{sym, ap, ap₂, subst, ◌∙◌}
use Rattle.model.specs.Orders.{Flow}
use Rattle.model.specs.Run.{Conforming}
use Rattle.model.specs.Gate as model-gate
use Rattle.model.specs.Gate.{gate_in_range}
use Rattle.model.specs.Offers as model
use Rattle.model.specs.Offers.{Offer, answer_to, offer_codes, after_offers, passed, stored, NotRefused, last_time, WithinTurns, frames_at}
use Rattle.model.proofs.Results.{gate-conforms, gate-keeps, gate-passes-first, gate-passes-again, gate-passes-since}
use Rattle.sender_gate.specs.declared.Gate.{Gate}
use Rattle.sender_gate.specs.declared.GateAnswer.{GateAnswer}
use Rattle.sender_gate.specs.View.{gate_of}
use Rattle.sender_gate.specs.Claim.{OffersAt, Chain, end, next, Gated, Claimed, PassesSince}

-- An offer is the model's, and so are offers one after the other.
one : (g : Gate) (o : Offer) {a : GateAnswer} → OffersAt g o a → (a.code ≡ (answer_to (gate_of g) o).code) × (gate_of a.gate ≡ (answer_to (gate_of g) o).gate)
unfolding answer_to
one g o e = (ap (λ (x : model-gate.GateAnswer). x.code) e, ap (λ (x : model-gate.GateAnswer). x.gate) e)

chain-codes : {g last : Gate} {os : List Offer} {codes : List ℕ} → Chain g os codes last → codes ≡ offer_codes (gate_of g) os
unfolding offer_codes
chain-codes end = refl
chain-codes (next {before} {o = o} {os = os} e more) = ap₂ (λ (c : ℕ) (cs : List ℕ). c ∷ cs) (one before o e).0 (chain-codes more ∙ ap (λ (x : model-gate.Gate). offer_codes x os) (one before o e).1)

chain_left : {g last : Gate} {os : List Offer} {codes : List ℕ} → Chain g os codes last → gate_of last ≡ after_offers (gate_of g) os
unfolding after_offers
chain_left end = refl
chain_left (next {before} {o = o} {os = os} e more) = chain_left more ∙ ap (λ (x : model-gate.Gate). after_offers x os) (one before o e).1

-- The codes of one offer more.
codes-more : (g : model-gate.Gate) (os : List Offer) (o : Offer) → offer_codes g (os ++ (o ∷ [])) ≡ offer_codes g os ++ ((answer_to (after_offers g os) o).code ∷ [])
unfolding offer_codes after_offers
codes-more g [] o = refl
codes-more g (p ∷ os) o = ap (λ (cs : List ℕ). (answer_to g p).code ∷ cs) (codes-more (answer_to g p).gate os o)

module _ {f : Flow} {opened : ℕ} {os : List Offer} {codes : List ℕ} {last : Gate} (gated : Gated f opened os codes last) where
  opened-as : gate_of gated.answer.gate ≡ model.flow_gate f opened
  opened-as = ap (λ (x : model-gate.GateAnswer). x.gate) gated.opens

  pub claim-codes : codes ≡ offer_codes (model.flow_gate f opened) os
  claim-codes = chain-codes gated.chain ∙ ap (λ (x : model-gate.Gate). offer_codes x os) opened-as

  claim-left : gate_of last ≡ after_offers (model.flow_gate f opened) os
  claim-left = chain_left gated.chain ∙ ap (λ (x : model-gate.Gate). after_offers x os) opened-as

  -- The code of one offer more.
  more-code : (o : Offer) {a : GateAnswer} → OffersAt last o a → a.code ≡ (answer_to (after_offers (model.flow_gate f opened) os) o).code
  more-code o e = (one last o e).0 ∙ ap (λ (x : model-gate.Gate). (answer_to x o).code) claim-left

  pub claim : Claimed f opened os codes last
  claim =
      let g = model.flow_gate f opened in
      record {
        answered = claim-codes;
        left = claim-left;
        keeps = λ ok. ap gate_in_range claim-left ∙ gate-keeps g os ok;
        conforms = λ back start. subst (λ (cs : List ℕ). Conforming (f ∷ []) (frames_at 0 start (passed os cs))) (sym claim-codes) (gate-conforms f opened start os back);
        first = λ o e not none.
            more-code o e
            ∙ gate-passes-first f.rate f.burst f.frame (model.reading_at opened) os o (ap (λ (cs : List ℕ). last_time (passed os cs)) (sym claim-codes) ∙ none)
            (subst (λ (c : ℕ). NotRefused c) (more-code o e) not);
        again = λ o {a} e not back within p was late.
            let all : codes ++ (a.code ∷ []) ≡ offer_codes g (os ++ (o ∷ [])) = ap₂ (λ (cs : List ℕ) (c : ℕ). cs ++ (c ∷ [])) claim-codes (more-code o e) ∙ sym (codes-more g os o) in
            more-code o e
            ∙ gate-passes-again f.rate f.burst f.frame opened os o back (subst (λ (cs : List ℕ). WithinTurns opened (stored (os ++ (o ∷ [])) cs)) all within)
            (subst (λ (c : ℕ). NotRefused c) (more-code o e) not)
            p
            (ap (λ (cs : List ℕ). last_time (passed os cs)) (sym claim-codes) ∙ was)
            late;
      }

pub since : {g last : Gate} {os : List Offer} {codes : List ℕ} → Chain g os codes last → gate_in_range (gate_of g) ≡ true → (p : ℕ) → g.reading ≡ model.reading_at p
    → PassesSince g p os codes last
since {g} {last} {os} {codes} chain ok p e o a answers not back within none late =
    let same = chain-codes chain in
    let code : a.code ≡ (answer_to (after_offers (gate_of g) os) o).code = (one last o answers).0 ∙ ap (λ (x : model-gate.Gate). (answer_to x o).code) (chain_left chain) in
    let all : codes ++ (a.code ∷ []) ≡ offer_codes (gate_of g) (os ++ (o ∷ [])) = ap₂ (λ (cs : List ℕ) (c : ℕ). cs ++ (c ∷ [])) same code ∙ sym (codes-more (gate_of g) os o) in
    code
    ∙ gate-passes-since (gate_of g) p os o ok e back (subst (λ (cs : List ℕ). WithinTurns p (stored (os ++ (o ∷ [])) cs)) all within) (subst (λ (c : ℕ). NotRefused c) code not)
    (ap (λ (cs : List ℕ). last_time (passed os cs)) (sym same) ∙ none)
    late
