-- One hop more leaves the rest of a path's array free.
-- Assumes nothing.
use Prim.Native.Nat.{ℕ, ◌+◌, ◌-◌}
use mathlib.Core.Path.{◌≡◌, sym, ap, ◌∙◌}
use mathlib.Core.List.{List}
use native.Mathlib.Omega.{arith}
use lib.ListN.{drop, set}
use Rattle.std.proofs.lemmas.List.{drop-set-lt, drop-drop, drop-replicate}
use Rattle.model.specs.Sizes.{hops_most}
use Rattle.orders.specs.Free.{ZeroFrom}

pub free-next : (entries : List ℕ) (hops entry : ℕ) → ZeroFrom entries hops → ZeroFrom (set entries hops entry) (hops + 1)
free-next entries hops entry free =
    let left : hops_most - (hops + 1) ≡ (hops_most - hops) - 1 = omega arith in
    rw (drop-set-lt (hops + 1) entries hops entry (omega arith), left)
    (sym (drop-drop 1 hops entries) ∙ ap (drop 1) free ∙ drop-replicate 1 (hops_most - hops) 0)
