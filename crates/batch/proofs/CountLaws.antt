-- Lines counted by their LFs: each LF before the last byte ends a line, and the last byte belongs to one more.
-- Assumes nothing.
use Rattle.std.proofs.Common.{◌≡◌, ℕ, suc, ◌+◌, Bool, true, false, cond, eqb, List, [], ◌∷◌, ◌++◌, length, count_by, refl, sym, ap, ◌∙◌, arith}
use Rattle.std.proofs.lemmas.List.Sums.{sum_by-cons}
use Rattle.model.specs.Columns.{Line, ended, unended, prepend, lines}
use Rattle.batch.specs.View.{is_lf}

-- A byte before a line is part of it.
prepended-length : (b : ℕ) (ls : List Line) (n : ℕ) → length ls ≡ suc n → length (prepend b ls) ≡ suc n
unfolding prepend
prepended-length b [] n e = absurd (omega (arith, e))
prepended-length b (ended bs ∷ ls) n e = e
prepended-length b (unended ∷ ls) n e = e

last-line : (b : ℕ) → length (lines (b ∷ [])) ≡ 1
unfolding lines prepend
last-line b = go (eqb b 10)
  where
    go : (t : Bool) → length (cond t (ended [] ∷ lines []) (prepend b (lines []))) ≡ 1
    go true = refl
    go false = refl

one_more : (b : ℕ) (ls : List Line) (n : ℕ) (t : Bool) → length ls ≡ suc n → length (cond t (ended [] ∷ ls) (prepend b ls)) ≡ suc (cond t 1 0 + n)
one_more b ls n true e = omega (arith, e)
one_more b ls n false e = omega (arith, prepended-length b ls n e)

pub lines-counted : (s : List ℕ) (last : ℕ) → length (lines (s ++ (last ∷ []))) ≡ suc (count_by is_lf s)
unfolding lines
lines-counted [] last = last-line last
lines-counted (b ∷ s) last = one_more b (lines (s ++ (last ∷ []))) (count_by is_lf s) (eqb b 10) (lines-counted s last) ∙ ap suc (sym (sum_by-cons (λ (x : ℕ). cond (is_lf x) 1 0) b s))
