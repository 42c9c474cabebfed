-- `flow_check::judge_path` meets its contract: 14 comes first; else the entries name the path, and 16, 15 and 20 are judged on them.
use mathlib.Core.Path.{◌≡◌}
use Rattle.std.proofs.Common.{rules, arith}
use Rattle.std.specs.Prelude.{Err}
use Rattle.std.proofs.lemmas.Grind.{common_steps}
use Rattle.flow_check.proofs.PathLaws.{Reported, reported, path-missing, path-refused, path-admitted}
use Rattle.flow_check.proofs.judge_path.Goals as goal

pub returns-in_err-path : goal.returns-in_err-path
returns-in_err-path c =
    let told : Reported c.args.hops.now c.locate.result c.map_err.result = reported c.args.hops.now c.locate.result c.map_err.result (λ i cause p. search rules) c.map_err.ensures.cases in
    let answer : c.from_residual.result ≡ Err c.in_err-path.field-0.0 = grind (arith, common_steps) in
    rw answer (path-missing c.args.flow c.args.hops.now c.args.table.now c.requires.1 c.requires.2 c.locate.result c.in_err-path.field-0.0 c.locate.ensures (rw c.in_err-path.was at told))

pub returns-in_err-judge_entries : goal.returns-in_err-judge_entries
returns-in_err-judge_entries c =
    let told : Reported c.args.hops.now c.locate.result c.map_err.result = reported c.args.hops.now c.locate.result c.map_err.result (λ i cause p. search rules) c.map_err.ensures.cases in
    let answer : c.from_residual-in_err-judge_entries.result ≡ Err c.in_err-judge_entries.field-0.0 = grind (arith, common_steps) in
    rw answer (path-refused c.args.flow c.args.hops.now c.args.table.now c.requires.1 c.requires.2 c.locate.result c.in_ok-path.path c.locate.ensures (rw c.in_ok-path.was at told)
    c.judge_entries.result (rw c.entries.ensures at c.judge_entries.ensures) c.in_err-judge_entries.field-0.0 c.in_err-judge_entries.was)

pub returns : goal.returns
returns c =
    let told : Reported c.args.hops.now c.locate.result c.map_err.result = reported c.args.hops.now c.locate.result c.map_err.result (λ i cause p. search rules) c.map_err.ensures.cases in
    path-admitted c.args.flow c.args.hops.now c.args.table.now c.requires.1 c.requires.2 c.locate.result c.in_ok-path.path c.locate.ensures (rw c.in_ok-path.was at told)
    c.judge_entries.result (rw c.entries.ensures at c.judge_entries.ensures) c.in_ok-judge_entries.field-0 c.in_ok-judge_entries.was
