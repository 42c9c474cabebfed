-- A call that changes the registry where it stands, in the terms of a call by value.
use Rattle.std.specs.Prelude.{ℕ, Result}
use Rattle.model.specs.Reference.{Call}
use Rattle.causes.specs.declared.Cause.{Cause}
use Rattle.registry.specs.declared.Registry.{Registry}
use Rattle.registry.specs.View.{Performs}

-- The answer and the registry afterwards are those of a call by value on the registry before.
abbrev pub InPlace : (before : Registry) (call : Call) (answer : Result ℕ Cause) (after : Registry) → Type 0
InPlace before call answer after = Performs before call (record { answer = answer; registry = after })
