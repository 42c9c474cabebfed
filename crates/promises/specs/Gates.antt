-- W-207 over what the contracts promise: what a gate answers, and that no frame is late whose source is behind one. That it holds is `opening-listed`, `offer-listed`, `behind-gates` and
-- `late-never` in `GatesLaws`. The claim about one gate is `Claim` of `sender_gate`.
use Rattle.std.specs.Prelude.{ℕ, ◌≤◌, ◌≡◌, true, false, ◌↔◌}
use mathlib.Core.List.{List, Memᴰ}
use Rattle.std.proofs.Math.Option.{some}
use Rattle.std.proofs.Math.ListN.{get_elem?}
use Rattle.model.specs.Orders.{Flow}
use Rattle.model.specs.Run.{Frame, bytes_of}
use Rattle.model.specs.Codes.{gate_open_codes, gate_offer_codes}
use Rattle.model.specs.Gate.{gate_in_range, length_in_range, no_gate, full_gate}
use Rattle.model.specs.Offers.{Offer, NotBack, passed, NotRefused, frames_at}
use Rattle.sender_gate.specs.declared.Gate.{Gate}
use Rattle.sender_gate.specs.declared.GateAnswer.{GateAnswer}
use Rattle.sender_gate.specs.View.{gate_of}
use Rattle.sender_gate.specs.Claim.{Gated}

-- Mission, line 1: a gate opened with any numbers.
pub record OpeningListed (rate burst frame now : ℕ) (a : GateAnswer) : Type 0 where
  pub code : Memᴰ a.code gate_open_codes
  -- 61 just where a number is out of range, and then there is none; else it is full.
  pub out_of_range : (a.code ≡ 61) ↔ (gate_in_range (full_gate rate burst frame now) ≡ false)
  pub refused : a.code ≡ 61 → gate_of a.gate ≡ no_gate
  pub opened : a.code ≡ 0 → gate_of a.gate ≡ full_gate rate burst frame now

-- An offer of any frame to any gate whatever.
pub record OfferListed (before : Gate) (length now : ℕ) (a : GateAnswer) : Type 0 where
  pub code : Memᴰ a.code gate_offer_codes
  -- 61 first, just where a number of the gate is out of range; then 60, just where the frame is.
  pub gate_out : (a.code ≡ 61) ↔ (gate_in_range (gate_of before) ≡ false)
  pub frame_out : gate_in_range (gate_of before) ≡ true → (a.code ≡ 60) ↔ (length_in_range (gate_of before) length ≡ false)
  -- Refused, it leaves the gate as it was, the reading too.
  pub unchanged : (NotRefused a.code → ⊥) → gate_of a.gate ≡ gate_of before

-- The source of each flow is behind a gate of its own, opened once with what the flow registered: at no instant it adds more bytes than passed the gate then. What is
-- offered may have no end, so it is given up to each instant. `start` is the true time, by the clock of that gate, at instant 0; a µs of the clock is one of the run.
pub record SourcesGated (fs : List Flow) (sent : ℕ → List Frame) : Type 0 where
  pub start : (flow : ℕ) → ℕ
  pub opened : (flow : ℕ) → ℕ
  pub offers : (flow until : ℕ) → List Offer
  pub codes : (flow until : ℕ) → List ℕ
  pub last : (flow until : ℕ) → Gate
  pub not_back : (j until : ℕ) → NotBack (opened j) (offers j until)
  pub gated : (j : ℕ) (f : Flow) → get_elem? fs j ≡ some f → (until : ℕ) → Gated f (opened j) (offers j until) (codes j until) (last j until)
  pub adds : (j : ℕ) (f : Flow) → get_elem? fs j ≡ some f → (until x : ℕ) → x ≤ until
      → bytes_of j (sent x) ≤ bytes_of j (frames_at j (start j) (passed (offers j until) (codes j until)) x)
