-- What the lines of a call's bytes are: none, several, or one.
-- Assumes nothing.
use Prim.Native.Nat.{ℕ, ◌<◌}
use mathlib.Core.Path.{◌≡◌, refl, ◌∙◌, ap}
use mathlib.Core.List.{List, [], ◌∷◌}
use native.Mathlib.Omega.{arith}
use lib.ListN.{length, drop}
use Rattle.model.specs.Columns.{Line, ended, unended, lines}
use Rattle.model.proofs.Laws.Columns.{lines-nothing, lines_left}
use Rattle.model.specs.Orders.{rejected}
use Rattle.model.specs.Reference.{only_line}

-- Several lines give 10.
pub several : (kind : ℕ) (first : Line) (text : List ℕ) (at : ℕ) → at < length text → only_line kind (first ∷ lines (drop at text)) ≡ rejected 10
unfolding only_line
several kind first text at h =
    let (second, more, e) = lines_left text at h in
    ap (λ (l : List Line). only_line kind (first ∷ l)) e ∙ both first second more
  where
    both : (l second : Line) (more : List Line) → only_line kind (l ∷ second ∷ more) ≡ rejected 10
    both (ended line) second more = refl
    both unended second more = refl

pub nothing : (text : List ℕ) → length text ≡ 0 → lines text ≡ []
nothing text e = lines-nothing text 0 (omega arith)

pub ruleset call_laws = (several, nothing, lines-nothing)
