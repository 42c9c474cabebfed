-- What the readings of this crate say in the terms of the recorded list.
use Rattle.std.specs.Prelude.{ℕ, ◌+◌, ◌≤◌, ◌≡◌, List, length, take, drop, Some, None}
use Rattle.std.specs.Prelude as code
use Rattle.std.specs.Borrow.{Bor}
use Rattle.std.proofs.Math.Option.{Option, none, some}
use Rattle.model.specs.Reference as model
use Rattle.orders.specs.declared.Kind.{Kind}
use Rattle.orders.specs.View.{kind_of}
use Rattle.registry.specs.declared.Registry.{Registry}
use Rattle.registry.specs.declared.Called.{Called}
use Rattle.registry.specs.View.{call_of, Performs}
use Rattle.recording.specs.Calls.{header_bytes, Header, first_call}
use Rattle.recording.specs.declared.Header as declared

abbrev pub header_of : code.Option declared.Header → Option Header
header_of (Some h) = some (record { kind = kind_of h.kind; size = h.size })
header_of None = none

-- The call that a header at the start of these bytes says.
abbrev pub call_in : (bytes : List ℕ) → code.Option declared.Header → Option model.Call
call_in bytes (Some h) = some (call_of (kind_of h.kind) (take h.size (drop header_bytes bytes)))
call_in bytes None = none

abbrev pub fits : (bytes : List ℕ) → code.Option declared.Header → Type 0
fits bytes (Some h) = header_bytes + h.size ≤ length bytes
fits bytes None = Unit {0}

-- What a step answers and leaves is what the reference model's does.
abbrev pub MakesCalls : (post : Registry → Kind → Bor (List ℕ) → Called → Type 0) → Type 0
MakesCalls post = (registry : Registry) (kind : Kind) (bytes : Bor (List ℕ)) (called : Called) → post registry kind bytes called
    → Performs registry (call_of (kind_of kind) bytes.now) called

-- The first call of these bytes, which are all of it.
pub record FirstCall (bytes : List ℕ) (r : code.Option declared.Header) : Type 0 where
  pub same : call_in bytes r ≡ first_call bytes
  pub within : fits bytes r
