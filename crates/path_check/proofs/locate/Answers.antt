-- `path_check::locate` meets its contract. The invariant: the entries so far name the hops so far,
-- and the search from hop i on answers what the whole search does. Assumes nothing.
use mathlib.Core.Path.{◌≡◌, subst}
use native.Mathlib.Omega.{arith}
use Rattle.std.proofs.Common.{Err, Some, None}
use Rattle.std.proofs.lemmas.Grind.{common_steps}
use Rattle.orders.specs.View.{hop_in}
use Rattle.path_check.specs.View.{EntryOf}
use Rattle.path_check.proofs.LocateLaws.{locating-next, located-missing, located-all}
use Rattle.path_check.proofs.locate.Goals as goal

pub returns-in_err-entry : goal.returns-in_err-entry
returns-in_err-entry c =
    let args = c.args in
    let l = c.loop-i in
    let none-there : c.entry_of.result ≡ None = cc c.in_err-entry.ensures.ok_part in
    let answer : c.from_residual.result ≡ Err l.i = grind (arith, common_steps) in
    rw answer (located-missing args.table.now args.hops.now args.count c.requires.1 c.requires.2 l.path l.i l.invariant (omega arith)
    (subst (EntryOf args.table.now (hop_in args.hops.now l.i)) none-there c.entry_of.ensures))

pub loop-i-preserved : goal.loop-i-preserved
loop-i-preserved c =
    let args = c.args in
    let l = c.loop-i in
    let e = c.in_ok-entry.entry in
    let found : c.entry_of.result ≡ Some e = cc c.in_ok-entry.ensures.ok_part in
    let named = subst (EntryOf args.table.now (hop_in args.hops.now l.i)) found c.entry_of.ensures in
    rw c.push.ensures (locating-next args.table.now args.hops.now args.count c.requires.1 c.requires.2 l.path l.i l.invariant e (omega arith) named.0 named.1)

pub returns : goal.returns
returns c =
    let args = c.args in
    let l = c.loop-i in
    located-all args.table.now args.hops.now args.count c.requires.1 c.requires.2 l.path l.i l.invariant (omega arith)
