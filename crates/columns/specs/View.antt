-- What the answers of this crate say in the terms of the model.
use Rattle.std.specs.Prelude.{ℕ, zero, suc, ◌+◌, ◌-◌, ◌≤◌, ◌<◌, ◌≡◌, Bool, false, ◌||◌, List, [], ◌∷◌, length, get_or, take, drop, eqb}
use Rattle.std.specs.Prelude.{Some, None}
use Rattle.std.specs.Prelude as code
use denote.Ref.{Bor}
use Rattle.std.proofs.Math.Option.{Option, none, some}
use Rattle.model.specs.Columns.{Line, ended, unended, lines, field}
use Rattle.model.specs.Laws.Columns.{prepend_all}

-- The number of a field, none where it is malformed.
abbrev pub value_of : code.Option ℕ → Option ℕ
value_of (Some n) = some n
value_of None = none

-- A line as it is handed on: its bytes without the LF, none where it has no LF.
abbrev pub line_of : code.Option (Bor (List ℕ)) → Line
line_of (Some bytes) = ended bytes.now
line_of None = unended

-- Blanks up to `at` don't count, and none stands there.
pub record AfterBlanks (s : List ℕ) (at : ℕ) : Type 0 where
  pub within : at ≤ length s
  pub rest : field s ≡ field (drop at s)
  pub other : at < length s → get_or s at 0 ≡ 32 → ⊥

-- Whether an LF stands in so many bytes from `at` on.
unfoldable pub lf_within : (text : List ℕ) (at size : ℕ) → Bool
lf_within text at zero = false
lf_within text at (suc k) = eqb (get_or text (at + k) 0) 10 || lf_within text at k

-- The bytes from `at` to `i` are part of the line that `i` stands in.
pub record SameLine (text : List ℕ) (at i : ℕ) : Type 0 where
  pub on : at ≤ i
  pub within : i ≤ length text
  pub same : lines (drop at text) ≡ prepend_all (take (i - at) (drop at text)) (lines (drop i text))

-- The lines of a text from `at` on, by where the first of them ends.
abbrev pub lines_from : List ℕ → ℕ → code.Option ℕ → List Line
lines_from text at (Some e) = ended (take (e - at) (drop at text)) ∷ lines (drop (e + 1) text)
lines_from text at None = unended ∷ []

abbrev pub ends_within : List ℕ → ℕ → code.Option ℕ → Type 0
ends_within text at (Some e) = (at ≤ e) × (e < length text)
ends_within text at None = Unit {0}

pub record FirstLine (text : List ℕ) (at : ℕ) (found : code.Option ℕ) : Type 0 where
  pub same : lines (drop at text) ≡ lines_from text at found
  pub within : ends_within text at found
