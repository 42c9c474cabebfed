-- What is free in a path's array, past its hops, is 0: so the path's list gives the whole array back.
use Rattle.std.specs.Prelude.{ℕ, ◌-◌, ◌≤◌, ◌≡◌, List, ◌++◌, length, take, drop, replicate}
use Rattle.std.proofs.Common.{sym, arith, take-append-drop, length-take-le}
use Rattle.model.specs.Sizes.{hops_most}

-- A path's list, with 0 behind it up to the array's length.
abbrev pub filled : List ℕ → List ℕ
filled path = path ++ replicate (hops_most - length path) 0

-- Past so many hops, all is 0.
abbrev pub ZeroFrom : (entries : List ℕ) (hops : ℕ) → Type 0
ZeroFrom entries hops = drop hops entries ≡ replicate (hops_most - hops) 0

pub taken-long : (entries : List ℕ) (hops : ℕ) → hops ≤ hops_most → length entries ≡ hops_most → length (take hops entries) ≡ hops
taken-long entries hops within whole = length-take-le hops entries (omega (arith, within, whole))

pub taken-filled : (entries : List ℕ) (hops : ℕ) → hops ≤ hops_most → length entries ≡ hops_most → ZeroFrom entries hops
    → filled (take hops entries) ≡ entries
taken-filled entries hops within whole free =
    rw (taken-long entries hops within whole, sym free) (take-append-drop hops entries)
