-- What a replay of a recorded list promises: the claim, of a run of the code.
use Rattle.std.specs.Prelude.{ℕ, ◌*◌, ◌/◌, ◌≡◌, List, [], ◌∷◌, ◌++◌, map, length, drop, Result}
use Rattle.model.specs.Columns.{justified}
use Rattle.model.specs.Answers.{answer_columns}
use Rattle.model.specs.QueueTable.{read_table}
use Rattle.model.specs.Reference as model
use Rattle.model.specs.Reference.{Call}
use Rattle.queue_table.specs.View.{table_of, text_of}
use Rattle.causes.specs.declared.Cause.{Cause}
use Rattle.admission.specs.View.{answer_of}
use Rattle.registry.specs.declared.Registry.{Registry}
use Rattle.registry.specs.Claim.{Chain, Claimed}
use Rattle.recording.specs.Calls.{calls_in, bytes_of}
use Rattle.recording.specs.declared.Ran.{Ran}
use Rattle.recording.specs.declared.Replayed.{Replayed}

-- Bytes of an answer line of a call, with its LF.
abbrev pub call_answer_bytes : ℕ
call_answer_bytes = 14

-- Room to answer every call of the 200,000 bytes that the programs read: none takes less than 9 of them.
abbrev pub answers_most : ℕ
answers_most = call_answer_bytes * 22223

-- The text of the answers, a line each: code 3 columns, place 4, link 4, level 2.
unfoldable pub answer_lines : List model.Answer → List ℕ
answer_lines [] = []
answer_lines (a ∷ more) = answer_columns a ++ (10 ∷ answer_lines more)

-- What is said of a refused table: code 3 columns, line 6.
unfoldable pub refusal_line : (code line : ℕ) → List ℕ
refusal_line code line = justified 3 code ++ (justified 6 line ++ (10 ∷ []))

-- The calls that are made: those of the list, as many as the area has room to answer.
unfoldable pub made_calls : (calls area : List ℕ) → List Call
made_calls calls area = calls_in (length area / call_answer_bytes) calls

-- The area with the answers to so many calls in its first bytes.
abbrev pub answered : (area : List ℕ) (calls : ℕ) → List (Result ℕ Cause) → List ℕ
answered area calls given = answer_lines (map answer_of given) ++ drop (call_answer_bytes * calls) area

-- From any registry: the calls of the list were made one after the other, each on the registry that the one before left.
pub record Runs (first : Registry) (calls area area' : List ℕ) (r : Ran) : Type 0 where
  pub count : r.count ≡ length (made_calls calls area)
  pub end : r.end ≡ bytes_of (made_calls calls area)
  pub given : List (Result ℕ Cause)
  pub chain : Chain first (made_calls calls area) given r.registry
  pub written : area' ≡ answered area (length (made_calls calls area)) given

-- On any table text, by value or in place, which the contract doesn't tell apart: the table's verdict, how many calls were made and where the last one ends, and all that is claimed of them.
pub record Replays (table calls area area' : List ℕ) (r : Replayed) : Type 0 where
  pub verdict : text_of r.verdict (table_of r.registry.table) ≡ read_table table
  pub count : r.count ≡ length (made_calls calls area)
  pub end : r.end ≡ bytes_of (made_calls calls area)
  pub given : List (Result ℕ Cause)
  pub claimed : Claimed table (made_calls calls area) given r.registry
  pub written : area' ≡ answered area (length (made_calls calls area)) given
