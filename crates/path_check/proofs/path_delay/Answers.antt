-- `path_check::path_delay` meets its contract. The invariant: the sum so far and what is left are the whole.
use native.Mathlib.Omega.{arith}
use Rattle.model.proofs.Laws.Path.{total-on, total-ended}
use Rattle.path_check.specs.View.{delay_at}
use Rattle.path_check.proofs.EntryLaws.{entry-low, delay-entries}
use Rattle.path_check.proofs.path_delay.Goals as goal

pub hop_delay-sum-requires : goal.hop_delay-sum-requires
hop_delay-sum-requires c =
    (entry-low c.args.table.now c.args.entries.now c.requires.1 c.requires.0.few c.loop-entry.entry-index (omega arith), c.requires.0.long)

pub loop-entry-preserved : goal.loop-entry-preserved
loop-entry-preserved c =
    let args = c.args in
    let l = c.loop-entry in (
      omega (arith, c.hop_delay-sum.ensures.1),
      omega (arith, c.hop_delay-sum.ensures.0, l.invariant.1, total-on (delay_at args.table.now) args.entries.now l.entry-index 0 (omega arith)),
    )

pub returns : goal.returns
returns c =
    let table = c.args.table.now in
    let entries = c.args.entries.now in
    let l = c.loop-entry in
    omega (arith, l.invariant.1, total-ended (delay_at table) entries l.entry-index (omega arith), delay-entries table entries c.requires.1)
