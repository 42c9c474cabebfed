-- `figures::counting::add_hop` meets its contract: its stores are the definition's, one after the other.
use native.Mathlib.Omega.{arith}
use Rattle.units.specs.View.{aggregate_of}
use Rattle.figures.proofs.FigureLaws.{flow-stored}
use Rattle.figures.proofs.counting.add_hop.Goals as goal

pub returns : goal.returns
returns c = flow-stored c.args.figures.now c.args.e (aggregate_of c.args.share) (omega (arith, c.max.ensures))
