-- What the answers of this crate say in the terms of the model.
use Rattle.std.specs.Prelude.{ℕ, ◌+◌, ◌/◌, ◌≤◌, ◌≡◌, Bool, true, ◌&&◌, List, [], ◌∷◌, ◌++◌, map, length, leb, ltb, eqb, Result, Ok, Err, IfOk}
use Rattle.std.proofs.Math.Option.{Option, none, some}
use Rattle.model.specs.Words.{first_index, is_none}
use Rattle.model.specs.Sizes.{number_most}
use Rattle.model.specs.QueueTable.{Table}
use Rattle.model.specs.Orders as model
use Rattle.model.specs.Reference as model-causes
use Rattle.model.specs.Outcomes.{early_findings}
use Rattle.model.specs.Consistent.{flow_in_range}
use Rattle.causes.specs.View.{cause_of, finding_of}
use Rattle.causes.specs.declared.Cause.{Cause}
use Rattle.orders.specs.declared.Flow.{Flow}
use Rattle.queue_table.specs.declared.access.Hop.{Hop}
use Rattle.orders.specs.View.{line_path, line_flow}
use Rattle.queue_table.specs.View.{table_of, hop_at, AllQueues}
use Rattle.bit_words.specs.View.{word_bits, is_set, LeastClear}
use Rattle.flow_store.specs.View.{slots_of}
use Rattle.flow_check.specs.declared.NoRoom.{NoRoom}

-- 16, 15 and 20 of a path.
unfoldable pub entry_findings : Table → (deadline : ℕ) → List model.Hop → List (Option model-causes.Cause)
entry_findings t deadline path =
    model-causes.at_hop 16 model-causes.met_earlier [] path
    ∷ model-causes.at_hop 15 (model-causes.starts_elsewhere t) [] path
    ∷ model-causes.whole 20 (ltb deadline (model-causes.path_delay t path))
    ∷ []

-- 14, 16, 15 and 20 of a path.
abbrev pub path_findings : Table → (deadline : ℕ) → List model.Hop → List (Option model-causes.Cause)
path_findings t deadline path = model-causes.at_hop 14 (model-causes.no_queue t) [] path ∷ entry_findings t deadline path

-- The entries name the path, queue by queue, and no link comes twice.
pub record PathNamed (f : Flow) (hops : List Hop) (table entries : List ℕ) : Type 0 where
  pub path : map hop_at entries ≡ line_path hops f.hops
  pub queues : AllQueues table entries
  pub once : model-causes.at_hop 16 model-causes.met_earlier [] (line_path hops f.hops) ≡ none

-- 14, 16, 15 and 20 of the line's flow.
pub record PathJudged (f : Flow) (hops : List Hop) (table : List ℕ) (r : Result (List ℕ) Cause) : Type 0 where
  pub first : finding_of r
      ≡ model-causes.first_cause (path_findings (table_of table) f.deadline.0 (line_path hops f.hops))
  pub named : IfOk r (PathNamed f hops table)

-- The causes before 30 against the line's flow, beside the flows in the slots.
pub record FlowJudged (f : Flow) (hops : List Hop) (table bits store : List ℕ) (r : Result (List ℕ) Cause) : Type 0 where
  pub first : finding_of r
      ≡ model-causes.first_cause (early_findings (record { table = table_of table; slots = slots_of bits store }) (line_flow f hops))
  pub named : IfOk r (PathNamed f hops table)

-- What a flow lacks, none where there is room.
abbrev pub lack_of : Result ℕ NoRoom → Option model-causes.Cause
lack_of (Ok slot) = none
lack_of (Err lack) = some (cause_of lack.cause)

-- The lowest free slot, whether there is room or not.
abbrev pub slot_of : Result ℕ NoRoom → ℕ
slot_of (Ok slot) = slot
slot_of (Err lack) = lack.slot

-- 30 and 31 against a flow with so many hops; and the lowest free slot.
pub record RoomJudged (hops : ℕ) (bits store : List ℕ) (r : Result ℕ NoRoom) : Type 0 where
  pub first : (f : model.Flow) → length f.path ≡ hops
      → lack_of r ≡ model-causes.first_cause (model-causes.room_findings (slots_of bits store) f)
  pub slot : LeastClear bits (slot_of r)

-- 11, 12, 17, 14, 16, 15 and 20 of a held flow beside the others: what consistency asks of it but the links.
unfoldable pub flow_alone : Table → List model.Flow → model.Flow → Bool
flow_alone t fs f =
    flow_in_range f
    && leb (model-causes.with_number f.number fs) 1
    && is_none (model-causes.first_cause (model-causes.line_findings t f ++ model-causes.deadline_finding t f ∷ []))

-- The same of slot i, counted from 0, if it is held: with 12 as that no lower slot has the number.
unfoldable pub slot_alone : Table → List model-causes.Slot → (i : ℕ) → model-causes.Slot → Bool
slot_alone t slots i none = true
slot_alone t slots i (some f) =
    flow_in_range f
    && eqb (first_index (model-causes.holds f.number) slots) i
    && is_none (model-causes.first_cause (model-causes.line_findings t f ++ model-causes.deadline_finding t f ∷ []))

-- How many words mark flow numbers, a bit for each up to the greatest.
abbrev pub number_words : ℕ
number_words = number_most / word_bits + 1

-- Those are marked that a slot before slot i holds, slots counted from 0.
pub record Marked (slots : List model-causes.Slot) (i : ℕ) (marks : List ℕ) : Type 0 where
  pub long : length marks ≡ number_words
  pub seen : (n : ℕ) → n ≤ number_most → is_set marks n ≡ ltb (first_index (model-causes.holds n) slots) i
