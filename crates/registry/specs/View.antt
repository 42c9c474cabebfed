-- What the arrays and answers of the registry say in the terms of the model.
use Rattle.std.specs.Prelude.{ℕ, ◌≡◌, List, length, Result, Err}
use Rattle.model.specs.QueueTable.{read_table}
use Rattle.model.specs.Orders.{Order, Kind}
use Rattle.model.specs.Reference as model
use Rattle.queue_table.specs.View.{table_numbers, table_of, text_of}
use Rattle.flow_store.specs.View.{slot_words, store_numbers, slots_of}
use Rattle.figures.specs.View.{figure_numbers, Figures}
use Rattle.recount.specs.View.{OnQueues}
use Rattle.causes.specs.declared.Cause.{Cause}
use Rattle.causes.specs.declared.Cause.TheVariants.{Inconsistent}
use Rattle.admission.specs.View.{state_of, answer_of, ConsistentArrays, Stepped}
use Rattle.registry.specs.declared.Registry.{Registry}
use Rattle.registry.specs.declared.Opened.{Opened}
use Rattle.registry.specs.declared.Called.{Called}

-- Arrays of the right sizes.
pub record Sized (table bits store figures : List ℕ) : Type 0 where
  pub table-long : length table ≡ table_numbers
  pub bits-long : length bits ≡ slot_words
  pub store_long : length store ≡ store_numbers
  pub figures-long : length figures ≡ figure_numbers

-- 42 and nothing changed where the arrays aren't a consistent registry; else the order is done.
pub record Guarded (o : Order) (table bits store figures bits' store' figures' : List ℕ) (r : Result ℕ Cause) : Type 0 where
  pub done : ConsistentArrays table bits store figures → Stepped o table bits store bits' store' figures' r
  pub inconsistent : (ConsistentArrays table bits store figures → ⊥)
      → (r ≡ Err Inconsistent) × ((bits' ≡ bits) × ((store' ≡ store) × (figures' ≡ figures)))

-- The state that a registry holds, and that it is consistent.
abbrev pub state_in : Registry → model.State
state_in r = state_of r.table r.bits r.store

abbrev pub Consistent : Registry → Type 0
Consistent r = ConsistentArrays r.table r.bits r.store r.figures

-- An empty registry on the table of the text, 1 to 5 with the line where it is refused. Free: the table array's numbers past the table's links and
-- levels; the numbers of the slots; the hop entries.
pub record OpensOn (text : List ℕ) (r : Opened) : Type 0 where
  pub verdict : text_of r.verdict (table_of r.registry.table) ≡ read_table text
  pub state : state_in r.registry ≡ model.opened text
  pub is-consistent : Consistent r.registry

-- The figures aren't those of the held flows.
abbrev pub OtherFigures : (table bits store figures : List ℕ) → Type 0
OtherFigures table bits store figures = OnQueues table bits store → Figures (table_of table) (model.held_flows (slots_of bits store)) figures → ⊥

-- A call of this kind, with the bytes that it is given.
abbrev pub call_of : Kind → (bytes : List ℕ) → model.Call
call_of kind bytes = record { kind = kind; bytes = bytes }

-- A call: 42 and the registry as it was where that isn't consistent; else the step of the reference model, and consistent again. The table's array
-- stays in either case. Free: the numbers of a free slot, and the hop entries past the held ones, which no flow has.
pub record Performs (before : Registry) (call : model.Call) (r : Called) : Type 0 where
  pub table : r.registry.table ≡ before.table
  pub answer : Consistent before → answer_of r.answer ≡ (model.step (state_in before) call).answer
  pub next : Consistent before → state_in r.registry ≡ (model.step (state_in before) call).next
  pub is-consistent : Consistent before → Consistent r.registry
  pub inconsistent : (Consistent before → ⊥) → (r.answer ≡ Err Inconsistent) × (r.registry ≡ before)
