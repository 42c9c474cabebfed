-- What is read of a list of offers in the terms of the model.
use Rattle.std.specs.Prelude.{◌≡◌, ℕ, suc, ◌+◌, List, length, Some, None}
use Rattle.std.specs.Prelude as code
use Rattle.std.proofs.Math.Option.{Option, none, some}
use Rattle.model.specs.Words.{and_then}
use Rattle.model.specs.Columns.{Line, field_at}
use Rattle.model.specs.Gate as model
use Rattle.model.specs.OfferList as model-list
use Rattle.model.specs.OfferList.{step_text, steps_text}
use Rattle.offer_list.specs.declared.Opening.{Opening}
use Rattle.offer_list.specs.declared.Step.{Step}

-- Bytes of an answer line, with its LF.
abbrev pub gate_line_bytes : ℕ
gate_line_bytes = 18

-- Two fields of a line, one right after the other; none where one is malformed.
abbrev pub pair_at : (first middle last : ℕ) → List ℕ → Option (ℕ × ℕ)
pair_at first middle last line = and_then (field_at first middle line) λ a. and_then (field_at (middle + 1) last line) λ b. some (a, b)

abbrev pub pair_in : code.Option (ℕ × ℕ) → Option (ℕ × ℕ)
pair_in (Some p) = some p
pair_in None = none

abbrev pub opening_of : Opening → model-list.Opening
opening_of o = record { rate = o.rate.0; burst = o.burst.0; frame = o.frame.0; reading = o.reading }

abbrev pub step_of : Step → model-list.Step
step_of s = record { length = s.length.0; micros = s.micros }

abbrev pub opening_in : code.Option Opening → Option model-list.Opening
opening_in (Some o) = some (opening_of o)
opening_in None = none

abbrev pub step_in : code.Option Step → Option model-list.Step
step_in (Some s) = some (step_of s)
step_in None = none

-- A line is followed by others, and this is found in it: a step, none where it is unended or malformed.
pub record FirstStep (left others : List Line) (found : code.Option Step) : Type 0 where
  pub same : (n clock : ℕ) (g : model.Gate)
      → steps_text n clock g left ≡ step_text n clock g (step_in found) λ now g'. steps_text (suc n) now g' others
  pub counted : length left ≡ suc (length others)
