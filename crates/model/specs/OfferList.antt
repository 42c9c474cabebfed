-- W-207: a list of offers as a text, and what `offers` prints of it.
use Rattle.std.specs.Prelude.{ℕ, suc, ◌+◌, ◌%◌, cond, List, [], ◌∷◌, ◌++◌, length, eqb}
use Rattle.std.proofs.Math.Option.{Option, none, some}
use Rattle.model.specs.Words.{and_then}
use Rattle.model.specs.Columns.{Line, ended, unended, lines, field_at, justified, end_line}
use Rattle.model.specs.Gate.{Gate, GateAnswer, turn, offer, open_gate}

-- The first line: rate 1-9, burst 10-17, largest frame 18-22, reading 23-31.
pub record Opening : Type 0 where
  pub rate : ℕ
  pub burst : ℕ
  pub frame : ℕ
  pub reading : ℕ

unfoldable pub opening_fields : List ℕ → Option Opening
opening_fields line =
    and_then (field_at 1 9 line) λ rate. and_then (field_at 10 17 line) λ burst. and_then (field_at 18 22 line) λ frame. and_then (field_at 23 31 line) λ reading.
    some (record { rate = rate; burst = burst; frame = frame; reading = reading })

unfoldable pub read_opening : List ℕ → Option Opening
read_opening line = cond (eqb (length line) 31) (opening_fields line) none

-- Each further line: a frame's bytes 1-5, µs since the line before 6-14.
pub record Step : Type 0 where
  pub length : ℕ
  pub micros : ℕ

unfoldable pub step_fields : List ℕ → Option Step
step_fields line = and_then (field_at 1 5 line) λ length. and_then (field_at 6 14 line) λ micros. some (record { length = length; micros = micros })

unfoldable pub read_step : List ℕ → Option Step
read_step line = cond (eqb (length line) 14) (step_fields line) none

-- What is read of a line that ends in LF; none where it is malformed or unended.
abbrev pub of_line : {A : Type 0} → (List ℕ → Option A) → Line → Option A
of_line read (ended line) = read line
of_line read unended = none

-- An answer: code 3 columns, tokens after it 14, LF.
unfoldable pub gate_line : GateAnswer → List ℕ
gate_line a = justified 3 a.code ++ (justified 14 a.gate.tokens ++ (10 ∷ []))

-- An answer, and what follows it from this reading and gate on; `end` and the line's number where it is malformed.
unfoldable pub step_text : (n clock : ℕ) → Gate → Option Step → (more : (now : ℕ) → Gate → List ℕ) → List ℕ
step_text n clock g none more = end_line n
step_text n clock g (some s) more =
    let now = (clock + s.micros) % turn in
    let a = offer g s.length now in
    gate_line a ++ more now a.gate

-- The lines from number `n` on, where the clock shows `clock` and the gate is `g`.
unfoldable pub steps_text : (n clock : ℕ) → Gate → List Line → List ℕ
steps_text n clock g [] = []
steps_text n clock g (l ∷ ls) = step_text n clock g (of_line read_step l) λ now g'. steps_text (suc n) now g' ls

-- After a refused opening there is nothing more.
unfoldable pub opened_text : Opening → GateAnswer → List Line → List ℕ
opened_text o a ls = gate_line a ++ cond (eqb a.code 0) (steps_text 2 o.reading a.gate ls) []

unfoldable pub opening_text : Option Opening → List Line → List ℕ
opening_text none ls = end_line 1
opening_text (some o) ls = opened_text o (open_gate o.rate o.burst o.frame o.reading) ls

unfoldable pub list_text : List Line → List ℕ
list_text [] = []
list_text (l ∷ ls) = opening_text (of_line read_opening l) ls

unfoldable pub offers_text : List ℕ → List ℕ
offers_text text = list_text (lines text)
