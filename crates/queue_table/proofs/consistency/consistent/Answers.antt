-- `queue_table::consistent` meets its contract: the links that it tests are the table's.
use mathlib.Core.Path.{refl, sym, ◌∙◌}
use mathlib.Core.Bool.{and-true}
use borrow.Author.Tests.{le-leb}
use Rattle.std.proofs.Common.{arith, rules, tests}
use Rattle.std.proofs.lemmas.Iterator.{YieldsList-from_range}
use Rattle.std.proofs.lemmas.Iterator.Search.{all_from_yields_List}
use Rattle.model.specs.Sizes.{links_most}
use Rattle.model.specs.Consistent.{link_consistent}
use Rattle.queue_table.specs.View.{link_count, link_at}
use Rattle.queue_table.proofs.ConsistentLaws.{every_range, table_at}
use Rattle.queue_table.proofs.consistency.consistent.Goals as goal

pub returns-then-n-le-LINKS : goal.returns-then-n-le-LINKS
returns-then-n-le-LINKS c =
    let table = c.args.table.now in
    let n = c.link_count-n.result in
    let tested = all_from_yields_List (λ i. link_consistent (link_at table i)) _ _ c.all.result c.all.ensures.ran (YieldsList-from_range 0 n n refl (omega arith)) (λ x b q k. search (rules, tests)) in
    tested ∙ every_range link_consistent (link_at table) n
    ∙ rw c.link_count-n.ensures.0 (sym (table_at table ∙ simp (le-leb (link_count table) links_most (omega (arith, c.link_count-n.ensures.0)), and-true)))
