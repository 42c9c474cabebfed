-- What the writer says in the terms of the model: the text of a slot and of them all;
-- its answer, and what the area holds then, of a registry of any content.
use Rattle.std.specs.Prelude.{ℕ, ◌≡◌, List, [], get_or, Result, Ok, Err}
use Rattle.std.proofs.Math.Option.{none, some}
use Rattle.model.specs.Reference.{Slot, held_flows}
use Rattle.model.specs.Handover as model
use Rattle.causes.specs.declared.Cause.{Cause}
use Rattle.causes.specs.View.{cause_of}
use Rattle.flow_store.specs.View.{slots_of}
use Rattle.admission.specs.View.{ConsistentArrays}
use Rattle.registry.specs.declared.Registry.{Registry}

-- What is written for a slot: the line of the flow that it holds.
unfoldable pub slot_text : Slot → List ℕ
slot_text none = []
slot_text (some f) = model.flow_line f

-- The same of slot i of the arrays, and of all their slots: the text of the held flows.
abbrev pub line_at : (bits store : List ℕ) (i : ℕ) → List ℕ
line_at bits store i = slot_text (get_or (slots_of bits store) i none)

abbrev pub text_in : (bits store : List ℕ) → List ℕ
text_in bits store = model.handover_text (held_flows (slots_of bits store))

-- 0, or the code of the cause.
abbrev pub code_of : Result ℕ Cause → ℕ
code_of (Ok bytes) = 0
code_of (Err cause) = (cause_of cause).code

-- How many bytes of the area are filled: none where the writing is refused.
abbrev pub bytes_of : Result ℕ Cause → ℕ
bytes_of (Ok bytes) = bytes
bytes_of (Err cause) = 0

abbrev pub written_of : Result ℕ Cause → (area : List ℕ) → model.Writing
written_of r area = record { code = code_of r; bytes = bytes_of r; area = area }

-- What is said of arrays of any content, and the area then: 42 where they aren't a consistent registry, else the text of the held flows, or 43.
pub data WritesArrays (table bits store figures area area' : List ℕ) (r : Result ℕ Cause) : Type 0 where
  consistent : ConsistentArrays table bits store figures → written_of r area' ≡ model.writing (text_in bits store) area
      → WritesArrays table bits store figures area area' r
  inconsistent : (ConsistentArrays table bits store figures → ⊥) → written_of r area' ≡ model.refused_writing 42 area
      → WritesArrays table bits store figures area area' r

-- The same of a registry.
abbrev pub Writes : Registry → (area area' : List ℕ) → Result ℕ Cause → Type 0
Writes r = WritesArrays r.table r.bits r.store r.figures
