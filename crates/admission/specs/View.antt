-- What the arrays and answers of an order say in the terms of the model.
use Rattle.std.specs.Prelude.{ℕ, ◌≤◌, ◌≡◌, true, List, length, Result, Ok, Err}
use Rattle.model.specs.Sizes.{hops_most}
use Rattle.model.specs.Orders as model-orders
use Rattle.model.specs.Reference as model
use Rattle.model.specs.Consistent.{flow_in_range, consistent}
use Rattle.causes.specs.declared.Cause.{Cause}
use Rattle.causes.specs.View.{cause_of}
use Rattle.queue_table.specs.declared.access.Hop.{Hop}
use Rattle.orders.specs.declared.Flow.{Flow}
use Rattle.orders.specs.declared.Order.{Order}
use Rattle.orders.specs.declared.Order.TheVariants.{Register, Release, Change}
use Rattle.orders.specs.declared.Unread.{Unread}
use Rattle.orders.specs.View.{change_of, line_flow}
use Rattle.queue_table.specs.View.{WellFormed, table_of}
use Rattle.flow_store.specs.View.{PackedStore, slots_of}
use Rattle.figures.specs.View.{Figures}

-- The state that the arrays hold: the table's links, and a flow or none at each slot.
abbrev pub state_of : (table bits store : List ℕ) → model.State
state_of table bits store = record { table = table_of table; slots = slots_of bits store }

-- A refusal as an answer line has it.
abbrev pub refusal_of : model.Cause → model.Answer
refusal_of c = record { code = c.code; slot = 0; link = c.link; level = c.level }

-- Document 01's code, place, link and level.
abbrev pub answer_of : Result ℕ Cause → model.Answer
answer_of (Ok slot) = record { code = 0; slot = slot; link = 0; level = 0 }
answer_of (Err cause) = refusal_of (cause_of cause)

-- A registration as it was read from a line: its numbers are in their ranges (11).
pub record LineRead (f : Flow) (hops : List Hop) : Type 0 where
  pub long : length hops ≡ hops_most
  pub few : f.hops ≤ hops_most
  pub range : flow_in_range (line_flow f hops) ≡ true

-- An order as it was read from a line.
abbrev pub OrderRead : Result Order Unread → (hops : List Hop) → Type 0
OrderRead (Ok (Register f)) hops = LineRead f hops
OrderRead (Ok (Release number)) hops = Unit {0}
OrderRead (Ok (Change c)) hops = model-orders.change_in_range (change_of c) ≡ true
OrderRead (Err unread) hops = Unit {0}

-- A consistent registry, whose figures are those of its flows.
pub record ConsistentArrays (table bits store figures : List ℕ) : Type 0 where
  pub formed : WellFormed table
  pub stored : PackedStore bits store
  pub is-consistent : consistent (state_of table bits store) ≡ true
  pub exact : Figures (table_of table) (model.held_flows (slots_of bits store)) figures

-- The order was done as the reference model does it, and the registry is consistent after it. Free: the numbers of free slots, unused hop entries.
pub record Stepped (o : model-orders.Order) (table bits store bits' store' figures' : List ℕ) (r : Result ℕ Cause) : Type 0 where
  pub answer : answer_of r ≡ (model.apply (state_of table bits store) o).answer
  pub next : state_of table bits' store' ≡ (model.apply (state_of table bits store) o).next
  pub kept : ConsistentArrays table bits' store' figures'
