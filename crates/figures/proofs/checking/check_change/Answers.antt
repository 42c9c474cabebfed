-- `figures::checking::check_change` meets its contract: at each hop the figures are those with the flow counted there by its new share.
use borrow.Author.Rules.{rules}
use mathlib.Core.Path.{◌≡◌, sym, subst}
use lib.ListN.{get_or}
use Rattle.units.specs.View.{aggregate_of}
use Rattle.figures.specs.View.{LimitedLevel, changed_at}
use Rattle.figures.proofs.EntryLaws.{hop-at, share-limited}
use Rattle.figures.proofs.FigureLaws.{replaced-most}
use Rattle.figures.proofs.SizeLaws.{level-limited, limited-below}
use Rattle.figures.proofs.CheckLaws.{counted-room, change-checked}
use Rattle.figures.proofs.checking.check_change.Goals as goal

pub check_path-requires-clause-callable : goal.check_path-requires-clause-callable
check_path-requires-clause-callable c = λ i sum at.
    let path = c.requires.on_table.0 in
    let counted = c.requires.on_table.1 in
    let hop = hop-at c.requires.hops at.below at.inside in
    let below = limited-below _ c.requires.speeds.1 in
    let room = counted-room path counted.is counted.fs counted.exact at.inside hop.0 (at.is path) in
    search rules

pub check_path-requires-clause-limited : goal.check_path-requires-clause-limited
check_path-requires-clause-limited c = λ i sum own at given.
    let hop = hop-at c.requires.hops at.below at.inside in
    let changed : aggregate_of own ≡ changed_at (aggregate_of c.args.was) (aggregate_of c.args.share) c.args.figures.now (get_or c.args.entries.now i 0) sum.0 = search rules in
    subst LimitedLevel (sym changed) (level-limited _ c.requires.speeds.1 _ hop.0 (share-limited c.requires.at_source.1 hop.2) (replaced-most _ _ _))

pub returns : goal.returns
returns c = change-checked _ _ _ _ (λ i sum own at given. search rules) c.check_path.ensures
