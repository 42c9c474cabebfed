-- W-207: a gate over the roll-over of its clock, a list of offers as a text, and the worked run with its sources behind gates whose clocks roll over during it.
-- By computation. Assumes nothing.
use Rattle.std.specs.Prelude.{ℕ, zero, suc, ◌+◌, ◌-◌, ◌^◌, ◌≤◌, ◌≡◌, refl, List, [], ◌∷◌, map}
use Rattle.std.proofs.Common.{zero-le, subst, arith}
use Prim.Native.String.{String}
use Rattle.std.proofs.Math.Option.{some, none-ne-some, some-injective}
use Rattle.std.proofs.Math.ListN.{get_elem?}
use Rattle.model.specs.Words.{filter}
use Rattle.model.specs.Total.{total}
use Rattle.model.specs.Formula.{ceil_div}
use Rattle.model.specs.Columns.{is_digit, digits, number, field, field_at, padded, justified, end_line, between, prepend, lines}
use Rattle.model.specs.QueueTable.{Queue}
use Rattle.model.specs.Orders.{Hop, Flow}
use Rattle.model.specs.Aggregates.{queue_at}
use Rattle.model.specs.Run.{bytes_of}
use Rattle.model.specs.Punctual.{Punctual}
use Rattle.model.specs.Gate.{Gate, time_passed, tokens_of, gate_in_range, length_in_range, gate_with, tokens_at, metered, offer, no_gate, opened_with, open_gate}
use Rattle.model.specs.Offers.{Offer, reading_at, NotBack, answer_to, offer_codes, after_offers, with_code, last_time, frames_at, behind_gate, BehindGates}
use Rattle.model.specs.OfferList.{opening_fields, read_opening, step_fields, read_step, gate_line, step_text, steps_text, opened_text, opening_text, list_text, offers_text}
use Rattle.model.proofs.Laws.Run.Exists.{run_of}
use Rattle.model.specs.WorkedBatch.{bytes_from, bytes}
use Rattle.model.proofs.WorkedRun.{table, at, flow, flows, sent, worked, timely}
use Rattle.model.proofs.Results.{gates-conform, gate-passes-first, gate-passes-again}

-- 1000 kbit/s, a burst of two frames of 84 bytes: 1,344,000 tokens, of which a frame takes 672,000 and a µs adds 1000. The clock rolls over 296 µs after it is opened.
abbrev pub gate : Gate
gate = (open_gate 1000 168 84 4294967000).gate

abbrev pub offered : (length time : ℕ) → Offer
offered length time = record { length = length; time = time }

-- Two pass, and the bucket is empty; one is dropped; 83 and 85 bytes are out of range; one is dropped 671 µs after the second.
abbrev pub before : List Offer
before =
    offered 84 4294967010
    ∷ offered 84 4294967010
    ∷ offered 84 4294967110
    ∷ offered 83 4294967200
    ∷ offered 85 4294967200
    ∷ offered 84 4294967681
    ∷ []

-- One passes 672 µs after the second; one is dropped a whole turn later, and one passes half a turn after that, when the bucket is full again.
abbrev pub after : List Offer
after = offered 84 4294967682 ∷ offered 84 8589934978 ∷ offered 84 10737418626 ∷ []

unfoldable pub tokens_after : Gate → List Offer → List ℕ
tokens_after g [] = []
tokens_after g (o ∷ os) = (answer_to g o).gate.tokens ∷ tokens_after (answer_to g o).gate os

pub worked-gate : (open_gate 1000 168 84 4294967000
    ≡ record { code = 0; gate = record { rate = 1000; burst = 168; frame = 84; tokens = 1344000; reading = 4294967000 } })
    × (offer_codes gate before ≡ 0 ∷ 0 ∷ 1 ∷ 60 ∷ 60 ∷ 1 ∷ [])
    × (tokens_after gate before ≡ 672000 ∷ 0 ∷ 100000 ∷ 100000 ∷ 100000 ∷ 671000 ∷ [])
    × (offer_codes (after_offers gate before) after ≡ 0 ∷ 1 ∷ 0 ∷ [])
    × (tokens_after (after_offers gate before) after ≡ 0 ∷ 0 ∷ 672000 ∷ [])
    × (after_offers gate before ≡ record { rate = 1000; burst = 168; frame = 84; tokens = 671000; reading = 385 })
unfolding between time_passed tokens_of gate_in_range length_in_range gate_with tokens_at metered offer opened_with open_gate reading_at answer_to offer_codes after_offers tokens_after
worked-gate = (refl, refl, refl, refl, refl, refl)

-- Gates that can't be: tokens one above full, and each number one past its range; a frame out of range besides doesn't count. With the greatest numbers, and full, a frame passes.
abbrev pub held : (rate burst frame tokens : ℕ) → Gate
held rate burst frame tokens = record { rate = rate; burst = burst; frame = frame; tokens = tokens; reading = 7 }

abbrev pub code_at : Gate → (length : ℕ) → ℕ
code_at g length = (offer g length 7).code

pub worked-refused : (map (λ g. code_at g 84)
    (held 1000 168 84 1344001 ∷ held 0 168 84 0 ∷ held 10000001 168 84 0 ∷ held 1000 83 84 0 ∷ held 1000 1000001 84 0 ∷ held 1000 168 83 0 ∷ held 1000 1543 1543 0 ∷ held 1000 84 85 0 ∷ [])
    ≡ 61 ∷ 61 ∷ 61 ∷ 61 ∷ 61 ∷ 61 ∷ 61 ∷ 61 ∷ [])
    × (code_at (held 1000 168 84 1344001) 83 ≡ 61)
    × ((offer (held 1000 168 84 1344001) 84 8).gate ≡ held 1000 168 84 1344001)
    × (code_at (held 10000000 1000000 1542 8000000000) 1542 ≡ 0)
    × (code_at (held 1 84 84 672000) 84 ≡ 0)
unfolding between time_passed tokens_of gate_in_range length_in_range gate_with tokens_at metered offer
worked-refused = (refl, refl, refl, refl, refl)

-- What `gate-passes-first` and `gate-passes-again` ask can be met: after a refused frame alone; and ceil(8000 × 84 / 1000) = 672 µs after the second that passed.
pub worked-first : (answer_to (after_offers gate (offered 83 4294967000 ∷ [])) (offered 84 4294967000)).code ≡ 0
unfolding between time_passed tokens_of gate_in_range length_in_range gate_with tokens_at metered offer opened_with open_gate reading_at answer_to offer_codes after_offers with_code last_time
worked-first =
    gate-passes-first 1000 168 84 4294967000 (offered 83 4294967000 ∷ []) (offered 84 4294967000) refl (λ e. absurd (omega arith), λ e. absurd (omega arith))

pub worked-again : (answer_to (after_offers gate before) (offered 84 4294967682)).code ≡ 0
unfolding between time_passed tokens_of gate_in_range length_in_range gate_with tokens_at metered offer opened_with open_gate reading_at answer_to offer_codes after_offers with_code last_time ceil_div
worked-again =
    gate-passes-again 1000 168 84 4294967000 before (offered 84 4294967682)
    (omega arith, (omega arith, (omega arith, (omega arith, (omega arith, (omega arith, (omega arith, tt)))))))
    (omega arith, (omega arith, (omega arith, (omega arith, (omega arith, tt)))))
    (λ e. absurd (omega arith), λ e. absurd (omega arith))
    4294967010
    refl
    (omega arith)

-- Opened at 294,967,000. Two frames empty the bucket, one is dropped 1 µs too early; then a turn and a µs pass, of which the gate sees the µs, as 83 bytes are out of range; 672 µs later one more passes. The last line is unended.
pub listed : String
listed =
    "     1000     168   84294967000\n   84        0\n   84        0\n   84      671\n   83999999999\n   83999999999\n   83999999999\n   83999999999\n   84294967301\n   84      672\n   84        0"

pub printed : String
printed =
    "  0       1344000\n  0        672000\n  0             0\n  1        671000\n 60        671000\n 60        671000\n 60        671000\n 60        671000\n  0             0\n  0             0\nend        11\n"

-- A burst of 83 bytes is refused, and so is a largest frame that the burst doesn't hold; then nothing more is read. An opening line of 30 or 32 columns is malformed, and so is an offer of 13 or 15.
pub worked-list : (offers_text (bytes listed) ≡ bytes printed)
    × (offers_text (bytes "     1000      83   84        0\n   84        0\n") ≡ bytes " 61             0\n")
    × (offers_text (bytes "     1000      84   85        0\n   84        0\n") ≡ bytes " 61             0\n")
    × (offers_text (bytes "     1000      84   84       0\n   84        0\n") ≡ bytes "end         1\n")
    × (offers_text (bytes "     1000      84   84        0 \n   84        0\n") ≡ bytes "end         1\n")
    × (offers_text (bytes "     1000      84   84        0\n   84       0\n") ≡ bytes "  0        672000\nend         2\n")
    × (offers_text (bytes "     1000      84   84        0\n   84        0 \n") ≡ bytes "  0        672000\nend         2\n")
    × (offers_text [] ≡ [])
unfolding bytes bytes_from listed printed is_digit digits number field field_at padded justified end_line between prepend lines time_passed tokens_of gate_in_range length_in_range gate_with tokens_at metered offer no_gate opened_with open_gate opening_fields read_opening step_fields read_step gate_line step_text steps_text opened_text opening_text list_text offers_text
worked-list = (refl, refl, refl, refl, refl, refl, refl, refl)

-- The offers of the sources of `WorkedRun`: the clock shows 2 µs before it rolls over at instant 0.
abbrev pub begins : ℕ
begins = 2 ^ 32 - 2

abbrev pub offers_of : (flow : ℕ) → List Offer
offers_of zero = offered 84 (begins + 1) ∷ offered 84 (begins + 3) ∷ []
offers_of (suc zero) = offered 84 begins ∷ offered 84 (begins + 1) ∷ offered 84 (begins + 2) ∷ []
offers_of (suc (suc zero)) = offered 84 (begins + 4) ∷ []
offers_of (suc (suc (suc j))) = []

not_back_lem : (j : ℕ) → NotBack (2 ^ 32 - 5) (offers_of j)
not_back_lem zero = (omega arith, (omega arith, tt))
not_back_lem (suc zero) = (omega arith, (omega arith, (omega arith, tt)))
not_back_lem (suc (suc zero)) = (omega arith, tt)
not_back_lem (suc (suc (suc j))) = tt

-- Each frame that a source adds passes its gate.
abbrev Passes : (flow : ℕ) → Flow → (x : ℕ) → Type 0
Passes j f x = bytes_of j (sent x) ≤ bytes_of j (behind_gate j f (2 ^ 32 - 5) begins (offers_of j) x)

each : (x : ℕ) → Passes 0 (flow 1 168 16 (at 1 1 ∷ at 2 1 ∷ [])) x × Passes 1 (flow 2 252 12 (at 1 2 ∷ [])) x × Passes 2 (flow 3 84 8 (at 2 1 ∷ [])) x
unfolding bytes_of total filter frames_at between time_passed tokens_of gate_in_range length_in_range gate_with tokens_at metered offer opened_with open_gate reading_at answer_to offer_codes with_code
each zero = (omega arith, omega arith, omega arith)
each (suc zero) = (omega arith, omega arith, omega arith)
each (suc (suc zero)) = (omega arith, omega arith, omega arith)
each (suc (suc (suc zero))) = (omega arith, omega arith, omega arith)
each (suc (suc (suc (suc zero)))) = (omega arith, omega arith, omega arith)
each (suc (suc (suc (suc (suc x))))) = (zero-le, zero-le, zero-le)

passes : (j : ℕ) (f : Flow) → get_elem? flows j ≡ some f → (x : ℕ) → Passes j f x
passes zero f e x = subst (λ z. Passes 0 z x) (some-injective _ f e) (each x).0
passes (suc zero) f e x = subst (λ z. Passes 1 z x) (some-injective _ f e) (each x).1
passes (suc (suc zero)) f e x = subst (λ z. Passes 2 z x) (some-injective _ f e) (each x).2
passes (suc (suc (suc j))) f e x = absurd (none-ne-some f e)

pub behind : BehindGates flows sent
behind =
    record {
      start = λ j. begins;
      opened = λ j. 2 ^ 32 - 5;
      offers = λ j until. offers_of j;
      not_back = λ j until. not_back_lem j;
      adds = λ j f e until x h. passes j f e x;
    }

-- So no frame of that run is late behind gates.
pub on-time-behind : (x : ℕ) (h : Hop) (q : Queue) → queue_at table h ≡ some q → Punctual table flows worked x h q
unfolding run_of
on-time-behind = timely.punctual worked (gates-conform flows sent behind)
