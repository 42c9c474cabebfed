-- `figures::checking::check_links` meets its contract: at each hop the figures are those with the flow counted in there.
use borrow.Author.Rules.{rules}
use mathlib.Core.Path.{◌≡◌, sym, subst}
use lib.ListN.{get_or}
use Rattle.units.specs.View.{aggregate_of}
use Rattle.figures.specs.View.{LimitedLevel, counted_at}
use Rattle.figures.proofs.EntryLaws.{hop-at, share-limited}
use Rattle.figures.proofs.FigureLaws.{at_most}
use Rattle.figures.proofs.SizeLaws.{level-limited}
use Rattle.figures.proofs.CheckLaws.{path-checked}
use Rattle.figures.proofs.checking.check_links.Goals as goal

pub check_path-requires-clause-limited : goal.check_path-requires-clause-limited
check_path-requires-clause-limited c = λ i sum own at given.
    let hop = hop-at c.requires.hops at.below at.inside in
    let counted : aggregate_of own ≡ counted_at (aggregate_of c.args.share) c.args.figures.now (get_or c.args.entries.now i 0) sum.0 = search rules in
    subst LimitedLevel (sym counted) (level-limited _ c.requires.speeds.1 _ hop.0 (share-limited c.requires.at_source hop.2) (at_most _))

pub returns : goal.returns
returns c = path-checked _ _ _ _ (λ i sum own at given. search rules) c.check_path.ensures
