-- `path_check::locate` meets its contract. The invariant: the entries so far name the hops so far,
-- and the search from hop i on answers what the whole search does. Assumes nothing.
use Rattle.path_check.proofs.LocateLaws.{Locating}
use Rattle.path_check.proofs.locate.Given as goal

abbrev pub invariant-loop-i : goal.invariant-loop-i
invariant-loop-i l = Locating l.table l.hops l.count l.path l.i
