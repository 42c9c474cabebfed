-- `path_check::starts_elsewhere` meets its contract: the nodes are those of the two entries' links.
use Prim.Native.Nat.{ℕ}
use mathlib.Core.Path.{sym, ap, ap₂, ◌∙◌}
use mathlib.Core.Bool.{not}
use mathlib.Core.List.{[]}
use native.Mathlib.Omega.{arith}
use lib.Dec.{eqb}
use Rattle.queue_table.specs.View.{from_at, to_at}
use Rattle.queue_table.proofs.EntryLaws.{queue-within}
use Rattle.path_check.proofs.EntryLaws.{starts-elsewhere}
use Rattle.path_check.proofs.starts_elsewhere.Goals as goal

pub link_at-end-requires : goal.link_at-end-requires
link_at-end-requires c =
    (omega (arith, c.link_of.ensures, c.requires.0.few, (queue-within c.args.table.now c.args.before c.requires.1).0), c.requires.0.long)

pub link_at-start-requires : goal.link_at-start-requires
link_at-start-requires c =
    (omega (arith, c.link_of-2.ensures, c.requires.0.few, (queue-within c.args.table.now c.args.here c.requires.2).0), c.requires.0.long)

pub returns : goal.returns
returns c =
    let table = c.args.table.now in
    ap₂ (λ (from to : ℕ). not (eqb from to))
    (c.link_at-start.ensures.from_value.0 ∙ ap (from_at table) c.link_of-2.ensures)
    (c.link_at-end.ensures.from_value.1 ∙ ap (to_at table) c.link_of.ensures)
    ∙ sym (starts-elsewhere table [] c.args.before c.args.here c.requires.1 c.requires.2)
