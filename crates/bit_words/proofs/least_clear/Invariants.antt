-- `bit_words::least_clear` meets its contract. The invariant: every bit before word i is set.
use Rattle.std.proofs.Common.{◌≡◌, ℕ, ◌*◌, ◌<◌, true}
use Rattle.bit_words.specs.View.{word_bits, is_set}
use Rattle.bit_words.proofs.least_clear.Given as goal

abbrev pub invariant-loop-i : goal.invariant-loop-i
invariant-loop-i l = (j : ℕ) → j < word_bits * l.i → is_set l.words j ≡ true
