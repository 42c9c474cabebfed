-- `registry::open` meets its contract: zeros on the table that was read.
use mathlib.Core.Path.{refl}
use Rattle.flow_store.specs.View.{slot_words, store_numbers}
use Rattle.figures.specs.View.{figure_numbers}
use Rattle.registry.proofs.OpenLaws.{opens}
use Rattle.registry.proofs.open.Goals as goal

pub returns : goal.returns
returns c =
    let read = c.read_table-read in
    opens _ read.result.numbers read.result.verdict read.ensures slot_words store_numbers figure_numbers refl refl refl
