-- `order_text::Held::len` meets its contract: there are as many slots as bits.
use mathlib.Core.Path.{ap}
use lib.ListN.{length}
use native.Mathlib.Omega.{arith}
use Rattle.flow_store.specs.Laws.{length-slots}
use Rattle.order_text.proofs.Held.len.Goals as goal

pub returns : goal.returns
returns c =
    let held = c.self.inside in
    (omega (arith, length-slots held.bits.now held.store.now, ap length c.self.view_is), omega arith)
