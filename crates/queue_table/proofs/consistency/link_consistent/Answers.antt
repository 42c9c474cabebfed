-- `queue_table::consistency::link_consistent` meets its contract: the levels that it tests are the link's.
use mathlib.Core.Path.{◌≡◌, refl, ◌∙◌}
use Rattle.std.proofs.Common.{arith, rules, tests}
use Rattle.std.proofs.lemmas.Iterator.{YieldsList-from_range}
use Rattle.std.proofs.lemmas.Iterator.Search.{all_from_yields_List}
use Rattle.model.specs.Words.{every}
use Rattle.model.specs.Columns.{between}
use Rattle.model.specs.QueueTable.{Queue, row_in_range}
use Rattle.model.specs.Consistent.{row_of}
use Rattle.queue_table.specs.View.{up_to, queue_at, link_at}
use Rattle.queue_table.proofs.ConsistentLaws.{every_range, link_at_numbers}
use Rattle.queue_table.proofs.consistency.link_consistent.Goals as goal

pub returns-then-link : goal.returns-then-link
unfolding between
returns-then-link c =
    let table = c.args.table.now in
    let i = c.args.i in
    let test = λ (q : Queue). row_in_range (row_of (link_at table i) q) in
    let n = c.link_at-link.result.levels in
    let in_turn = YieldsList-from_range 0 n n refl (omega arith) in
    let tested = all_from_yields_List (λ p. test (queue_at table i p)) _ _ c.all.result c.all.ensures.ran in_turn (λ x b q k. search (rules, tests)) in
    let all : c.all.result ≡ every test (up_to n (queue_at table i)) = tested ∙ every_range test (queue_at table i) n in
    search (rules, tests, all, link_at_numbers table i)
