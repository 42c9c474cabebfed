-- `registry::figures_right` meets its contract: one array only holds the figures of the held flows.
use mathlib.Core.Path.{subst}
use mathlib.Core.List.{List}
use Prim.Native.Nat.{ℕ}
use Rattle.recount.specs.View.{Recounted}
use Rattle.figures.proofs.FigureLaws.{figures-unique}
use Rattle.registry.proofs.figures_right.Goals as goal

pub returns : goal.returns
returns c =
    let args = c.args in
    let fresh = c.recount.ensures in record { recounted = λ e. subst (λ (l : List ℕ). Recounted args.table.now args.bits.now args.store.now l) (c.same.ensures.a_value e) fresh; other_figures = λ e on figures. c.same.ensures.fact e (figures-unique (fresh.same on) figures) }
