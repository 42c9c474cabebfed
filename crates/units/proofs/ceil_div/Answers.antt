-- `units::ceil_div` meets its contract: the code is the definition. Assumes nothing.
use Rattle.model.specs.Formula.{ceil_div}
use borrow.Author.Rules.{rules}
use Rattle.units.proofs.ceil_div.Goals as goal

pub returns : goal.returns
unfolding ceil_div
returns c = search rules
