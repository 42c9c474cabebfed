-- `path_check::entry_of` meets its contract: each test rules out one way of naming no queue.
use Prim.Native.Nat.{◌-◌, ◌<◌}
use mathlib.Core.Path.{◌≡◌}
use native.Mathlib.Omega.{arith}
use Rattle.std.proofs.Common.{None}
use Rattle.std.proofs.lemmas.Grind.{common_steps}
use Rattle.queue_table.specs.View.{link_count, levels_at}
use Rattle.path_check.proofs.EntryLaws.{no-link-zero, no-link, no-level-zero, no-level, entry-names}
use Rattle.path_check.proofs.entry_of.Goals as goal

pub returns-in_err-i : goal.returns-in_err-i
returns-in_err-i c =
    let answer : c.from_residual.result ≡ None = grind (arith, common_steps) in
    rw answer (no-link-zero c.args.table.now c.args.hop.link c.args.hop.level (omega (arith, c.in_err-i.ensures)))

pub returns-then-link_count-i : goal.returns-then-link_count-i
returns-then-link_count-i c =
    no-link c.args.table.now c.args.hop.link c.args.hop.level (omega (arith, c.in_ok-i.ensures)) (omega (arith, c.in_ok-i.ensures, c.link_count.ensures.0))

pub returns-in_err-j : goal.returns-in_err-j
returns-in_err-j c =
    let answer : c.from_residual-in_err-j.result ≡ None = grind (arith, common_steps) in
    rw answer (no-level-zero c.args.table.now c.args.hop.link c.args.hop.level (omega (arith, c.in_ok-i.ensures)) (omega (arith, c.in_ok-i.ensures, c.link_count.ensures.0)) (omega (arith, c.in_err-j.ensures)))

pub returns-then-found-j : goal.returns-then-found-j
returns-then-found-j c =
    let args = c.args in
    let i : c.in_ok-i.field-0 ≡ args.hop.link - 1 = omega (arith, c.in_ok-i.ensures) in
    let levels : c.link_at-found.result.levels ≡ levels_at args.table.now (args.hop.link - 1) = rw i at c.link_at-found.ensures.speed_value.1 in
    no-level args.table.now args.hop.link args.hop.level (omega (arith, c.in_ok-i.ensures)) (omega (arith, c.link_count.ensures.0)) (omega (arith, c.in_ok-j.ensures)) (omega (arith, c.in_ok-j.ensures))

pub returns : goal.returns
returns c =
    let args = c.args in
    let i : c.in_ok-i.field-0 ≡ args.hop.link - 1 = omega (arith, c.in_ok-i.ensures) in
    let j : c.in_ok-j.j ≡ args.hop.level - 1 = omega (arith, c.in_ok-j.ensures) in
    let levels : c.link_at-found.result.levels ≡ levels_at args.table.now (args.hop.link - 1) = rw i at c.link_at-found.ensures.speed_value.1 in
    let inside : args.hop.link - 1 < link_count args.table.now = omega (arith, c.link_count.ensures.0) in
    rw (c.entry_at.ensures.0, i, j)
    (entry-names args.table.now args.hop.link args.hop.level (omega (arith, c.in_ok-i.ensures)) (omega (arith, c.in_ok-j.ensures)) inside (omega arith) (c.requires.shallow (args.hop.link - 1) inside))
