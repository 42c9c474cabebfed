-- `figures::checking::link_meets` meets its contract: the loaded levels are those of the definition.
use Prim.Native.Nat.{ℕ, ◌+◌}
use mathlib.Core.Path.{◌≡◌, refl, ap, ◌∙◌}
use mathlib.Core.Bool.{Bool, true, false, cond}
use mathlib.Core.List.{List}
use mathlib.Core.Option.{none, some}
use lib.Dec.{eqb}
use Rattle.std.specs.Prelude.{Result, Ok, Err, is_ok}
use Rattle.model.specs.Formula.{Aggregate}
use Rattle.model.specs.Reference.{Cause, link_cause}
use Rattle.model.specs.LinkCheck as model
use Rattle.causes.specs.declared.Cause as code
use Rattle.causes.specs.View.{finding_of}
use Rattle.figures.specs.View.{finding_at}
use Rattle.figures.proofs.SizeLaws.{summable-alone}
use Rattle.figures.proofs.checking.link_meets.Goals as goal

-- A result is `Ok` where nothing is found, which is where the code is 0.
found : (r : Result (Unit {0}) code.Cause) (b : Bool) (c : Cause) → finding_of r ≡ cond b none (some c) → is_ok r ≡ b
found (Ok x) true c e = refl
found (Ok x) false c e = absurd cc
found (Err d) true c e = absurd cc
found (Err d) false c e = refl

coded : (r : Result (Unit {0}) code.Cause) (link : ℕ) (w : model.Finding) → finding_of r ≡ link_cause link w → is_ok r ≡ eqb w.code 0
unfolding link_cause
coded r link w e = found r (eqb w.code 0) _ e

pub find_on-requires-clause-summable : goal.find_on-requires-clause-summable
find_on-requires-clause-summable c =
    rw c.link_levels.ensures (summable-alone c.args.figures.now c.requires.link_lt_links_most.1.1 c.args.link c.requires.link_lt_links_most.0)

pub returns : goal.returns
returns c =
    c.is_ok.ensures.value
    ∙ coded c.find_on.result (c.args.link + 1) _ (c.find_on.ensures
    ∙ ap (λ (l : List Aggregate). link_cause (c.args.link + 1) (finding_at c.args.table.now c.args.link l)) c.link_levels.ensures)
