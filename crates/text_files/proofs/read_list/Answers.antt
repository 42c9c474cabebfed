-- What counts is no more than there is.
use Rattle.std.proofs.Common.{◌≤◌, length, arith, sym}
use Rattle.std.proofs.lemmas.List.{length-take-le}
use Rattle.text_files.proofs.read_list.Goals as goal

pub returns-then-n-gt-LIST : goal.returns-then-n-gt-LIST
returns-then-n-gt-LIST g c =
    let list = c.read_or_tell-n.new.text in
    let within : 200000 ≤ length list = omega (arith, c.if-n-gt-LIST.true, c.read_or_tell-n.ensures.0) in
    ((within, sym (length-take-le 200000 list within)), omega arith)
