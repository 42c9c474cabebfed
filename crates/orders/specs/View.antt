-- What the answers of this crate say in the terms of the model.
use Rattle.std.specs.Prelude.{ℕ, ◌≤◌, List, [], map, take, get_or}
use Rattle.std.specs.Prelude.{Some, None, Result, Ok, Err}
use Rattle.std.specs.Prelude as code
use Rattle.std.proofs.Math.Option.{Option, none, some}
use Rattle.model.specs.Sizes.{hops_most}
use Rattle.model.specs.Orders as model
use Rattle.queue_table.specs.declared.access.Hop.{Hop}
use Rattle.orders.specs.declared.Flow.{Flow}
use Rattle.orders.specs.declared.Change as declared
use Rattle.orders.specs.declared.Kind.{Kind}
use Rattle.orders.specs.declared.Kind.TheVariants as kind
use Rattle.orders.specs.declared.OtherKind.{OtherKind}
use Rattle.orders.specs.declared.Order.{Order}
use Rattle.orders.specs.declared.Order.TheVariants.{Register, Release, Change}
use Rattle.orders.specs.declared.Unread.{Unread}
use Rattle.orders.specs.declared.Unread.TheVariants.{Malformed, OutOfRange}
use Rattle.orders.specs.declared.OrderLine.{OrderLine}

-- A hop as the model has it.
abbrev pub hop_named : Hop → model.Hop
hop_named h = record { link = h.link; level = h.level }

-- What stands past the hops of an array.
abbrev pub no_hop : Hop
no_hop = record { link = 0; level = 0 }

-- The hops of an order line's array.
abbrev pub hops_in : List Hop → List model.Hop
hops_in = map hop_named

-- Hop i of them, counted from 0.
abbrev pub hop_in : (hops : List Hop) (i : ℕ) → model.Hop
hop_in hops i = hop_named (get_or hops i no_hop)

-- The path of an order line: the first n hops of its array.
abbrev pub line_path : (hops : List Hop) (n : ℕ) → List model.Hop
line_path hops n = take n (hops_in hops)

abbrev pub kind_of : Kind → model.Kind
kind_of kind.Register = model.registering
kind_of kind.Release = model.releasing
kind_of kind.Change = model.changing

abbrev pub kind_in : Result Kind OtherKind → Option model.Kind
kind_in (Ok kind) = some (kind_of kind)
kind_in (Err other) = none

-- The columns of a flow before its hops.
abbrev pub fields_of : Flow → model.Head
fields_of f =
    record {
      number = f.number;
      rate = f.share.rate.0;
      burst = f.share.burst.0;
      frame = f.share.frame.0;
      deadline = f.deadline.0;
      hops = f.hops;
    }

-- The flow of an order line: it has as many of the hops beside it as it says.
abbrev pub line_flow : Flow → (hops : List Hop) → model.Flow
line_flow f hops = model.flow_of (fields_of f) (line_path hops f.hops)

abbrev pub change_of : declared.Change → model.Change
change_of c = record { number = c.number; rate = c.rate.0; burst = c.burst.0 }

-- What an order says with the hops beside it; only a registration has any.
abbrev pub order_with : Result Order Unread → (hops : List Hop) → model.Order
order_with (Ok (Register f)) hops = model.register (line_flow f hops)
order_with (Ok (Release n)) hops = model.release n
order_with (Ok (Change c)) hops = model.change (change_of c)
order_with (Err Malformed) hops = model.rejected 10
order_with (Err OutOfRange) hops = model.rejected 11

-- The same of an order that was read together with its hops.
abbrev pub read_as : Result (Order × List Hop) Unread → model.Order
read_as (Ok read) = order_with (Ok read.0) read.1
read_as (Err unread) = order_with (Err unread) []

abbrev pub order_of : OrderLine → model.Order
order_of l = order_with l.order l.hops

-- A registration's hops are in the array.
abbrev pub hops_fit : Result Order Unread → Type 0
hops_fit (Ok (Register f)) = f.hops ≤ hops_most
hops_fit (Ok (Release n)) = Unit {0}
hops_fit (Ok (Change c)) = Unit {0}
hops_fit (Err u) = Unit {0}

abbrev pub source_of : code.Option declared.Change → Option model.Change
source_of (Some c) = some (change_of c)
source_of None = none

abbrev pub head_of : code.Option Flow → Option model.Head
head_of (Some f) = some (fields_of f)
head_of None = none

abbrev pub hop_of : code.Option Hop → Option model.Hop
hop_of (Some h) = some (hop_named h)
hop_of None = none

-- The first n hops of what was read, none where a field is malformed.
abbrev pub path_of : code.Option (List Hop) → (n : ℕ) → Option (List model.Hop)
path_of (Some hops) n = some (line_path hops n)
path_of None n = none
