-- `figures::counting::remove_hop` meets its contract: its stores are the definition's, one after the other.
use native.Mathlib.Omega.{arith}
use Rattle.units.specs.View.{aggregate_of}
use Rattle.figures.proofs.RemoveLaws.{less_none, less-own, less-kept}
use Rattle.figures.proofs.counting.remove_hop.Goals as goal

pub returns-then-figures-first-eq0 : goal.returns-then-figures-first-eq0
returns-then-figures-first-eq0 c =
    less_none c.args.figures.now c.args.e (aggregate_of c.args.share) (omega arith) c.requires.rate_bound c.if-figures-first-eq0.true

pub returns-then-share-figures : goal.returns-then-share-figures
returns-then-share-figures c =
    less-kept c.args.figures.now c.args.e (aggregate_of c.args.share) (omega arith) c.requires.rate_bound c.if-figures-first-eq0.false c.if-share-figures.true

pub returns : goal.returns
returns c =
    less-own c.args.figures.now c.args.e (aggregate_of c.args.share) (omega arith) c.requires.rate_bound c.if-figures-first-eq0.false c.if-share-figures.false
