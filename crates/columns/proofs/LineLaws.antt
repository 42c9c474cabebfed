-- Bytes without an LF stay in their line, one or a block at a time; a text has no more lines than bytes. Assumes nothing.
use Prim.Native.Nat.{ℕ, zero, suc, ◌+◌, ◌≤◌, ◌<◌}
use mathlib.Core.Path.{◌≡◌, refl, ◌∙◌, subst}
use mathlib.Core.Bool.{Bool, true, false, cond}
use mathlib.Core.List.{List, [], ◌∷◌}
use native.Mathlib.Omega.{arith}
use native.Mathlib.Numerals.{add-one}
use borrow.Author.Tests.{eq-eqb, ne_eqb, eqb-false}
use lib.ListN.{length, get_or}
use lib.Dec.{eqb}
use Rattle.model.specs.Columns.{Line, ended, unended, prepend, lines}
use Rattle.model.proofs.Laws.Columns.{line_step, line-start}
use Rattle.model.proofs.Laws.Test.{or-neither}
use denote.Ref.{Bor}
use Rattle.std.specs.Prelude.{Result, Some, None, Err}
use Rattle.std.specs.Prelude as code
use Rattle.std.specs.Option.{ok_or}
use Rattle.columns.specs.View.{line_of, lf_within, SameLine}

-- A text has no more lines than bytes.
prepend-long : (b : ℕ) (ls : List Line) → length (prepend b ls) ≤ suc (length ls)
unfolding prepend
prepend-long b [] = omega arith
prepend-long b (ended bs ∷ ls) = omega arith
prepend-long b (unended ∷ ls) = omega arith

pub few_lines : (text : List ℕ) → length (lines text) ≤ length text
unfolding lines
few_lines [] = omega arith
few_lines (b ∷ bs) = go (eqb b 10) (few_lines bs)
  where
    go : (lf : Bool) → length (lines bs) ≤ length bs → length (cond lf (ended [] ∷ lines bs) (prepend b (lines bs))) ≤ suc (length bs)
    go true h = omega arith
    go false h = omega (arith, h, prepend-long b (lines bs))

module _ (text : List ℕ) (at : ℕ) where
  pub lf-none : false ≡ lf_within text at 0
  unfolding lf_within
  lf-none = refl

  pub lf-here : (k : ℕ) → get_or text (at + k) 0 ≡ 10 → true ≡ lf_within text at (k + 1)
  unfolding lf_within
  lf-here k e = rw (add-one k) (simp (eq-eqb (get_or text (at + k) 0) 10 e))

  pub lf-other : (k : ℕ) → (get_or text (at + k) 0 ≡ 10 → ⊥) → lf_within text at k ≡ lf_within text at (k + 1)
  unfolding lf_within
  lf-other k e = rw (add-one k) (simp (ne_eqb (get_or text (at + k) 0) 10 e))

  pub line-begun : at ≤ length text → SameLine text at at
  line-begun h = record { on = omega arith; within = h; same = line-start text at }

  pub line_on : (i : ℕ) → SameLine text at i → i < length text → (get_or text i 0 ≡ 10 → ⊥) → SameLine text at (i + 1)
  line_on i line h other = record { on = omega (arith, line.on); within = omega arith; same = line.same ∙ line_step text at i line.on h other }

  pub line-past : (i k : ℕ) → SameLine text at i → i + k ≤ length text → lf_within text i k ≡ false → SameLine text at (i + k)
  unfolding lf_within
  line-past i zero line h e =
      let same : i ≡ i + 0 = omega arith in
      subst (SameLine text at) same line
  line-past i (suc k) line h e =
      let (here, before) = or-neither (eqb (get_or text (i + k) 0) 10) (lf_within text i k) e in
      let same : i + k + 1 ≡ i + suc k = omega arith in
      subst (SameLine text at) same
      (line_on (i + k) (line-past i k line (omega arith) before) (omega arith) (eqb-false (get_or text (i + k) 0) 10 here))

-- Where the bytes of a line are missed, it has no LF.
pub missed : {E : Type 0} (line : code.Option (Bor (List ℕ))) (error other : E) → ◌≡◌ {A = Result (Bor (List ℕ)) E} (Err error) (ok_or line other)
    → (line_of line ≡ unended) × (error ≡ other)
missed {E} None error other e = (refl, same e)
  where
    same : {x y : E} → ◌≡◌ {A = Result (Bor (List ℕ)) E} (Err x) (Err y) → x ≡ y
    same e = cc
missed (Some bytes) error other e = absurd (cc)
