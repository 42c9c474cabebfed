-- `bit_words::least_clear` meets its contract. The invariant: every bit before word i is set.
use Rattle.std.proofs.Common.{arith}
use Rattle.bit_words.proofs.WordLaws.{least-found, word-full}
use Rattle.bit_words.proofs.least_clear.Goals as goal

pub returns-then-clear-ne0 : goal.returns-then-clear-ne0
returns-then-clear-ne0 c = least-found _ _ (c.type_inv.words c.loop-i.i).fits c.loop-i.invariant (omega arith) _ (omega arith) c.lowest_set.ensures

pub loop-i-preserved : goal.loop-i-preserved
loop-i-preserved c = word-full _ _ (c.type_inv.words c.loop-i.i).fits c.loop-i.invariant (omega arith)
