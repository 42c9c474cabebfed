-- Induction over instants: what holds at an instant once it holds at all earlier ones holds at every instant. Assumes nothing.
use Rattle.std.specs.Prelude.{ℕ, zero, suc, ◌<◌, ◌≡◌, refl, Bool, true, false, eqb}
use Rattle.std.proofs.Common.{sym, subst, arith, eqb-true}
use Rattle.std.proofs.lemmas.Bool.{eqb-false}

module _ (P : ℕ → Type 0) (step : (x : ℕ) → ((y : ℕ) → y < x → P y) → P x) where
  pub at-earlier : (x y : ℕ) → y < x → P y
  at-earlier zero y u = absurd (omega arith)
  at-earlier (suc x) y u = go (eqb y x) refl (at-earlier x)
    where
      go : (b : Bool) → eqb y x ≡ b → ((y : ℕ) → y < x → P y) → P y
      go true e before = subst P (sym (eqb-true y x e)) (step x before)
      go false e before = let d = eqb-false y x e in before y (omega (arith, d))

  pub at_each : (x : ℕ) → P x
  at_each x = step x (at-earlier x)
