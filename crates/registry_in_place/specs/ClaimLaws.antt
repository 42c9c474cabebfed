-- A chain of calls grows by a call in place as it does by one by value, so `claim` of `registry` covers any mixture of both. Assumes nothing.
use Rattle.std.specs.Prelude.{ℕ, List, [], ◌∷◌, ◌++◌, Result}
use Rattle.model.specs.Reference.{Call}
use Rattle.causes.specs.declared.Cause.{Cause}
use Rattle.registry.specs.declared.Registry.{Registry}
use Rattle.registry.specs.Claim.{Chain}
use Rattle.registry.specs.ClaimLaws.{chain_next}
use Rattle.registry_in_place.specs.View.{InPlace}

pub chain-in-place : {first last after : Registry} {calls : List Call} {answers : List (Result ℕ Cause)} {c : Call} {answer : Result ℕ Cause}
    → Chain first calls answers last → InPlace last c answer after
    → Chain first (calls ++ c ∷ []) (answers ++ answer ∷ []) after
chain-in-place = chain_next
