-- `bit_words::past_set` meets its contract. The invariant: every bit from word i on is clear, where i is one past the word that is looked at.
use Rattle.std.proofs.Common.{◌-◌, arith}
use Rattle.bit_words.proofs.WordLaws.{past-found, word-clear}
use Rattle.bit_words.proofs.past_set.Goals as goal

pub returns-then-word-ne0 : goal.returns-then-word-ne0
returns-then-word-ne0 c =
    let w = c.loop-i.i - 1 in
    past-found _ w (λ j low. c.loop-i.invariant j (omega arith)) (omega arith) (omega arith) (c.type_inv.words w).fits

pub loop-i-preserved : goal.loop-i-preserved
loop-i-preserved c = word-clear _ _ (λ j low. c.loop-i.invariant j (omega arith)) (omega arith)
