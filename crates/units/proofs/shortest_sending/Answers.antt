-- `units::shortest_sending` meets its contract: 672 bits divided by the speed, rounded up; a quotient by 0 is 0.
use mathlib.Core.Path.{sym, ap}
use Rattle.model.specs.Formula.{ceil_div, shortest_sending}
use Rattle.units.proofs.shortest_sending.Goals as goal

pub returns-then-speed-eq0 : goal.returns-then-speed-eq0
unfolding shortest_sending ceil_div
returns-then-speed-eq0 c = sym (ap shortest_sending c.if-speed-eq0.true)
