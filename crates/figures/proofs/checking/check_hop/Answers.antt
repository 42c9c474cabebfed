-- `figures::checking::check_hop` meets its contract: the loaded levels with the given figures stored at the queue's own are those of the definition.
use Prim.Native.Nat.{ℕ, ◌+◌}
use mathlib.Core.Path.{◌≡◌, ap, ap₂, ◌∙◌}
use mathlib.Core.List.{List}
use lib.ListN.{set}
use Rattle.model.specs.Formula as model
use Rattle.model.specs.Reference.{link_cause}
use Rattle.units.specs.declared.Aggregate.{Aggregate}
use Rattle.units.specs.View.{aggregate_of}
use Rattle.queue_table.specs.View.{link_in, level_in}
use Rattle.link_check.specs.View.{aggregates_of}
use Rattle.figures.specs.View.{level_figures, levels_with, finding_at}
use Rattle.figures.proofs.SizeLaws.{map-set, summable}
use Rattle.figures.proofs.checking.check_hop.Goals as goal

-- The loaded levels with the given figures stored at the queue's own.
put : (figures : List ℕ) (e : ℕ) (own : Aggregate) (levels : List Aggregate) {link level : ℕ} → link ≡ link_in e → level ≡ level_in e
    → aggregates_of levels ≡ level_figures figures link
    → aggregates_of (set levels level own) ≡ levels_with figures e (aggregate_of own)
unfolding levels_with
put figures e own levels {link} {level} link_is level_is loaded =
    map-set aggregate_of levels level own
    ∙ ap₂ (λ (l : List model.Aggregate) (k : ℕ). set l k (aggregate_of own)) (loaded ∙ ap (level_figures figures) link_is) level_is

pub find_on-requires-clause-summable : goal.find_on-requires-clause-summable
find_on-requires-clause-summable c =
    let pre = c.requires.e_lt_queues_most in
    rw (put c.args.figures.now c.args.e c.args.own c.link_levels-levels.result c.link_of-link.ensures c.level_of.ensures.0 c.link_levels-levels.ensures)
    (summable c.args.figures.now pre.1.1 c.args.e pre.0 (aggregate_of c.args.own) c.requires.limited_level)

pub returns : goal.returns
returns c =
    let link = c.link_of-link.ensures in
    c.find_on.ensures
    ∙ ap₂ (λ (k : ℕ) (l : List model.Aggregate). link_cause (k + 1) (finding_at c.args.table.now k l)) link
    (put c.args.figures.now c.args.e c.args.own c.link_levels-levels.result link c.level_of.ensures.0 c.link_levels-levels.ensures)
