-- The causes in the terms of the model: document 01's code, link and level of each.
use Rattle.std.specs.Prelude.{ℕ, Result, Ok, Err}
use Rattle.std.proofs.Math.Option.{Option, none, some}
use Rattle.model.specs.Reference as model
use Rattle.causes.specs.declared.Cause.{Cause}
use Rattle.causes.specs.declared.Cause.TheVariants.{Malformed, OutOfRange, NumberHeld, NumberNotHeld, NoQueue, StartsElsewhere, MetEarlier, FrameAboveBurst, OverDeadline, OverRate, OverDelay, OverBacklog, NoSlot, NoEntries, Inconsistent, AreaTooShort}
use Rattle.causes.specs.declared.Numbers.{Numbers}

-- A cause that names neither link nor level.
abbrev pub bare : (code : ℕ) → model.Cause
bare code = record { code = code; link = 0; level = 0 }

abbrev pub cause_of : Cause → model.Cause
cause_of Malformed = bare 10
cause_of OutOfRange = bare 11
cause_of NumberHeld = bare 12
cause_of NumberNotHeld = bare 13
cause_of (NoQueue link level) = record { code = 14; link = link; level = level }
cause_of (StartsElsewhere link level) = record { code = 15; link = link; level = level }
cause_of (MetEarlier link level) = record { code = 16; link = link; level = level }
cause_of FrameAboveBurst = bare 17
cause_of OverDeadline = bare 20
cause_of (OverRate link) = record { code = 21; link = link; level = 0 }
cause_of (OverDelay link level) = record { code = 22; link = link; level = level }
cause_of (OverBacklog link level) = record { code = 23; link = link; level = level }
cause_of NoSlot = bare 30
cause_of NoEntries = bare 31
cause_of Inconsistent = bare 42
cause_of AreaTooShort = bare 43

-- What is against something, none where nothing is.
abbrev pub finding_of : {A : Type 0} → Result A Cause → Option model.Cause
finding_of (Ok _) = none
finding_of (Err cause) = some (cause_of cause)

abbrev pub numbers_in : Numbers → model.Cause
numbers_in n = record { code = n.code; link = n.link; level = n.level }
