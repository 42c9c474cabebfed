-- What a search for a flow number tells once its answer, or 13 for want of one, is known.
-- Assumes nothing.
use Rattle.std.specs.Prelude.{Ok, Err, Some, None}
use Rattle.std.specs.Prelude as code
use Rattle.std.specs.Option.{ok_or}
use Prim.Native.Nat.{ℕ, ◌<◌}
use mathlib.Core.Path.{◌≡◌}
use Rattle.model.specs.Sizes.{slot_count}
use Rattle.causes.specs.declared.Cause.{Cause}
use Rattle.flow_store.specs.View.{FoundSlot}

pub lacking : (first : ℕ) (found : code.Option ℕ) (cause given : Cause) → FoundSlot first found → ok_or found cause ≡ Err given → (first ≡ slot_count) × (given ≡ cause)
lacking first None cause given is e = (is, cc)
lacking first (Some slot) cause given is e = cc

pub located : (first : ℕ) (found : code.Option ℕ) (cause : Cause) (slot : ℕ) → FoundSlot first found → ok_or found cause ≡ Ok slot → (slot < slot_count) × (slot ≡ first)
located first None cause slot is e = cc
located first (Some at) cause slot is e = let same : slot ≡ at = cc in rw same is
