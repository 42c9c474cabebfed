-- Document 01, "Columns", order lines: what an order line says, for every line; 10 before 11.
use Rattle.std.specs.Prelude.{ℕ, zero, suc, ◌+◌, ◌*◌, Bool, cond, ◌&&◌, List, [], ◌∷◌, length, drop, eqb}
use Rattle.std.proofs.Math.Option.{Option, none, some}
use Rattle.model.specs.Words.{and_then}
use Rattle.model.specs.Sizes.{number_most, hops_most, head_columns, hop_columns}
use Rattle.model.specs.Columns.{Line, ended, unended, field_at, between}

pub record Hop : Type 0 where
  pub link : ℕ
  pub level : ℕ

-- A flow as its line gives it: rate in kbit/s, burst and largest frame in bytes, deadline in µs.
pub record Flow : Type 0 where
  pub number : ℕ
  pub rate : ℕ
  pub burst : ℕ
  pub frame : ℕ
  pub deadline : ℕ
  pub path : List Hop

-- A change as its line gives it: a flow's number, its new rate in kbit/s and its new burst in bytes.
pub record Change : Type 0 where
  pub number : ℕ
  pub rate : ℕ
  pub burst : ℕ

-- A registration with its flow, a release with its flow number, a change, or 10 or 11.
pub data Order : Type 0 where
  register : Flow → Order
  release : ℕ → Order
  change : Change → Order
  rejected : ℕ → Order

-- The columns of a registration before its hops.
pub record Head : Type 0 where
  pub number : ℕ
  pub rate : ℕ
  pub burst : ℕ
  pub frame : ℕ
  pub deadline : ℕ
  pub hops : ℕ

-- A change's columns, with which a registration begins too.
unfoldable pub change_fields : List ℕ → Option Change
change_fields line =
    and_then (field_at 3 8 line) λ number. and_then (field_at 9 17 line) λ rate. and_then (field_at 18 25 line) λ burst.
    some (record { number = number; rate = rate; burst = burst })

unfoldable pub head_fields : List ℕ → Option Head
head_fields line =
    and_then (change_fields line) λ c. and_then (field_at 26 30 line) λ frame.
    and_then (field_at 31 38 line) λ deadline. and_then (field_at 39 41 line) λ hops.
    some (record { number = c.number; rate = c.rate; burst = c.burst; frame = frame; deadline = deadline; hops = hops })

-- A hop's six columns: link 1-4, level 5-6.
unfoldable pub hop_field : List ℕ → Option Hop
hop_field bytes =
    and_then (field_at 1 4 bytes) λ link.
    and_then (field_at 5 6 bytes) λ level.
    some (record { link = link; level = level })

-- So many hops, one after the other.
unfoldable pub hop_fields : ℕ → List ℕ → Option (List Hop)
hop_fields zero bytes = some []
hop_fields (suc n) bytes = and_then (hop_field bytes) λ hop. and_then (hop_fields n (drop hop_columns bytes)) λ hops. some (hop ∷ hops)

-- With a hop count in range the line has exactly 41 + 6 × hops columns.
unfoldable pub path_fields : ℕ → List ℕ → Option (List Hop)
path_fields hops line = cond (eqb (length line) (head_columns + hop_columns * hops)) (hop_fields hops (drop head_columns line)) none

unfoldable pub number_in_range : ℕ → Bool
number_in_range = between 1 number_most

abbrev pub rate_in_range : ℕ → Bool
rate_in_range = between 1 10000000

abbrev pub burst_in_range : ℕ → Bool
burst_in_range = between 84 1000000

abbrev pub frame_in_range : ℕ → Bool
frame_in_range = between 84 1542

unfoldable pub hops_in_range : ℕ → Bool
hops_in_range = between 1 hops_most

-- The ranges of a registration, its hop count aside. A hop's link and level have none.
unfoldable pub head_in_range : Head → Bool
head_in_range h =
    number_in_range h.number
    && rate_in_range h.rate
    && burst_in_range h.burst
    && frame_in_range h.frame
    && between 1 10000000 h.deadline

unfoldable pub flow_of : Head → List Hop → Flow
flow_of h path =
    record { number = h.number; rate = h.rate; burst = h.burst; frame = h.frame; deadline = h.deadline; path = path }

unfoldable pub with_path : Head → Option (List Hop) → Order
with_path h none = rejected 10
with_path h (some path) = cond (head_in_range h) (register (flow_of h path)) (rejected 11)

-- With a hop count out of range, nothing after column 41 is read.
unfoldable pub registration_of : List ℕ → Option Head → Order
registration_of line none = rejected 10
registration_of line (some h) = cond (hops_in_range h.hops) (with_path h (path_fields h.hops line)) (rejected 11)

unfoldable pub registration : List ℕ → Order
registration line = registration_of line (head_fields line)

unfoldable pub release_of : Option ℕ → Order
release_of none = rejected 10
release_of (some n) = cond (number_in_range n) (release n) (rejected 11)

-- A release ends after column 8.
unfoldable pub release_line : List ℕ → Order
release_line line = cond (eqb (length line) 8) (release_of (field_at 3 8 line)) (rejected 10)

unfoldable pub change_in_range : Change → Bool
change_in_range c = number_in_range c.number && rate_in_range c.rate && burst_in_range c.burst

unfoldable pub change_of : Option Change → Order
change_of none = rejected 10
change_of (some c) = cond (change_in_range c) (change c) (rejected 11)

-- W-206: a change ends after column 25.
unfoldable pub change_line : List ℕ → Order
change_line line = cond (eqb (length line) 25) (change_of (change_fields line)) (rejected 10)

-- Kind 1 registers, kind 2 releases, kind 3 changes.
pub data Kind : Type 0 where
  registering : Kind
  releasing : Kind
  changing : Kind

unfoldable pub kind_number : Kind → ℕ
kind_number registering = 1
kind_number releasing = 2
kind_number changing = 3

unfoldable pub kind_of_number : ℕ → Option Kind
kind_of_number n =
    cond (eqb n (kind_number registering)) (some registering)
    (cond (eqb n (kind_number releasing)) (some releasing) (cond (eqb n (kind_number changing)) (some changing) none))

-- Another kind is out of range and the rest isn't read.
unfoldable pub kind_order : List ℕ → Option Kind → Order
kind_order line none = rejected 11
kind_order line (some registering) = registration line
kind_order line (some releasing) = release_line line
kind_order line (some changing) = change_line line

unfoldable pub order_of_kind : List ℕ → Option ℕ → Order
order_of_kind line none = rejected 10
order_of_kind line (some n) = kind_order line (kind_of_number n)

unfoldable pub read_order : List ℕ → Order
read_order line = order_of_kind line (field_at 1 2 line)

unfoldable pub order_line : Line → Order
order_line unended = rejected 10
order_line (ended line) = read_order line
