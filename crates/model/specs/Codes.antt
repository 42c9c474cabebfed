-- Mission, line 1: the answers that document 01 lists ("Who can cause which refusal"), and what each of them names. Each code stands in one list.
use Rattle.std.specs.Prelude.{ℕ, ◌≤◌, ◌≡◌, length}
use mathlib.Core.List.{List, [], ◌∷◌, ◌++◌, Memᴰ}
use Rattle.std.proofs.Math.Option.{none, some}
use Rattle.model.specs.Sizes.{slot_count}
use Rattle.model.specs.Columns.{lines}
use Rattle.model.specs.QueueTable.{Queue, Link, TableText, accepted, refused}
use Rattle.model.specs.Orders.{Hop, Order, register, release, change, rejected}
use Rattle.model.specs.Aggregates.{link_at, queue_at}
use Rattle.model.specs.Reference.{Slot, State, Cause, Answer, slot_with}

-- Causes that name neither link nor level: of a line that can't be read; against a release or a change, of a flow that isn't held; against a
-- registration or a change, of a burst; against a registration.
abbrev pub line_codes : List ℕ
line_codes = 10 ∷ 11 ∷ []

abbrev pub held_codes : List ℕ
held_codes = 13 ∷ []

abbrev pub burst_codes : List ℕ
burst_codes = 17 ∷ []

abbrev pub register_codes : List ℕ
register_codes = 12 ∷ 20 ∷ 30 ∷ 31 ∷ []

abbrev pub plain_codes : Order → List ℕ
plain_codes (register f) = burst_codes ++ register_codes
plain_codes (release n) = held_codes
plain_codes (change c) = held_codes ++ burst_codes
plain_codes (rejected code) = line_codes

-- Causes that name a hop of a registration's line, a link, a queue.
abbrev pub hop_codes : List ℕ
hop_codes = 14 ∷ 15 ∷ 16 ∷ []

abbrev pub link_codes : List ℕ
link_codes = 21 ∷ []

abbrev pub queue_codes : List ℕ
queue_codes = 22 ∷ 23 ∷ []

abbrev pub cause_codes : List ℕ
cause_codes = line_codes ++ held_codes ++ burst_codes ++ register_codes ++ hop_codes ++ link_codes ++ queue_codes

-- An answer line.
abbrev pub order_codes : List ℕ
order_codes = 0 ∷ cause_codes

-- A registry that isn't consistent; a direct call.
abbrev pub registry_codes : List ℕ
registry_codes = 42 ∷ []

abbrev pub call_codes : List ℕ
call_codes = registry_codes ++ order_codes

-- A lent area that is too short; a writer of texts (W-204).
abbrev pub area_codes : List ℕ
area_codes = 43 ∷ []

abbrev pub writer_codes : List ℕ
writer_codes = 0 ∷ (registry_codes ++ area_codes)

-- Causes against a line of the table; a table text.
abbrev pub row_codes : List ℕ
row_codes = 1 ∷ 2 ∷ 3 ∷ 4 ∷ []

abbrev pub open_codes : List ℕ
open_codes = 0 ∷ 5 ∷ row_codes

-- Causes that the host can mend; a batch.
abbrev pub host_codes : List ℕ
host_codes = 40 ∷ 41 ∷ []

abbrev pub batch_codes : List ℕ
batch_codes = open_codes ++ host_codes

-- A gate (W-207) with a number out of range; a frame out of range; the opening of a gate, and an offer: passed (0), dropped (1) or refused.
abbrev pub gate_codes : List ℕ
gate_codes = 61 ∷ []

abbrev pub frame_codes : List ℕ
frame_codes = 60 ∷ []

abbrev pub gate_open_codes : List ℕ
gate_open_codes = 0 ∷ gate_codes

abbrev pub gate_offer_codes : List ℕ
gate_offer_codes = 0 ∷ 1 ∷ (frame_codes ++ gate_codes)

-- The hops of an order's line.
unfoldable pub hops_of : Order → List Hop
hops_of (register f) = f.path
hops_of (release n) = []
hops_of (change c) = []
hops_of (rejected code) = []

-- The path whose links are checked: that of the line, for a change that of the flow in its slot.
unfoldable pub path_in : Slot → List Hop
path_in none = []
path_in (some f) = f.path

unfoldable pub path_of : List Slot → Order → List Hop
path_of slots (register f) = f.path
path_of slots (release n) = []
path_of slots (change c) = path_in (slot_with c.number slots)
path_of slots (rejected code) = []

-- A link that a hop of the path is on.
pub record OnPath (path : List Hop) (link : ℕ) : Type 0 where
  pub hop : Hop
  pub member : Memᴰ hop path
  pub same : link ≡ hop.link

-- A cause against the order `o` on the state `s`, and what its link and level are: those of the hop for 14, 15, 16; the link, and level 0, for 21; the failing
-- queue for 22, 23, both on the path; else both 0.
pub data Names (s : State) (o : Order) (c : Cause) : Type 0 where
  nothing : Memᴰ c.code (plain_codes o) → c.link ≡ 0 → c.level ≡ 0 → Names s o c
  hop : Memᴰ c.code hop_codes → Memᴰ (record { link = c.link; level = c.level }) (hops_of o) → Names s o c
  link : Memᴰ c.code link_codes → OnPath (path_of s.slots o) c.link → (k : Link) → link_at s.table c.link ≡ some k → c.level ≡ 0 → Names s o c
  queue : Memᴰ c.code queue_codes → OnPath (path_of s.slots o) c.link → (q : Queue)
      → queue_at s.table (record { link = c.link; level = c.level }) ≡ some q
      → Names s o c

-- An answer to an order as listed: done, with one of the places; or a cause, and place 0.
pub data Listed (s : State) (o : Order) (a : Answer) : Type 0 where
  done : a.code ≡ 0 → 1 ≤ a.slot → a.slot ≤ slot_count → a.link ≡ 0 → a.level ≡ 0 → Listed s o a
  because : a.slot ≡ 0 → Names s o (record { code = a.code; link = a.link; level = a.level }) → Listed s o a

-- A table text's refusal: 1 to 4 with one of its lines, counted from 1; 5 with line 0.
pub data FaultListed (text : List ℕ) (code line : ℕ) : Type 0 where
  row : Memᴰ code row_codes → 1 ≤ line → line ≤ length (lines text) → FaultListed text code line
  size : code ≡ 5 → line ≡ 0 → FaultListed text code line

-- What opening on a table text returns: 0, or the text's refusal.
abbrev pub TextListed : (text : List ℕ) → TableText → Type 0
TextListed text (accepted t) = Unit {0}
TextListed text (refused code line) = FaultListed text code line

abbrev pub text_code : TableText → ℕ
text_code (accepted t) = 0
text_code (refused code line) = code

-- What a batch returns: 0 and the count of order lines; a refusal of its table; or 40 or 41 with line 0.
pub data BatchListed (table orders : List ℕ) (code line : ℕ) : Type 0 where
  done : code ≡ 0 → line ≡ length (lines orders) → BatchListed table orders code line
  fault : FaultListed table code line → BatchListed table orders code line
  host : Memᴰ code host_codes → line ≡ 0 → BatchListed table orders code line
