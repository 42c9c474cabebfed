-- `queue_table::read_into` meets its contract: the number of links stored behind them makes the array hold them.
use native.Mathlib.Omega.{arith}
use Rattle.queue_table.proofs.ReadLaws.{links_counted}
use Rattle.queue_table.proofs.read_into.Goals as goal

pub returns : goal.returns
returns c =
    let read = c.read_lines-read in
    links_counted c.args.text.now read.new.table read.result c.map.result c.unwrap_or.result read.ensures (grind arith) c.unwrap_or.ensures
