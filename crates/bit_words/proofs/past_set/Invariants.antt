-- `bit_words::past_set` meets its contract. The invariant: every bit from word i on is clear, where i is one past the word that is looked at.
use Rattle.std.proofs.Common.{◌≡◌, ℕ, ◌*◌, ◌≤◌, ◌<◌, length, false}
use Rattle.bit_words.specs.View.{word_bits, is_set}
use Rattle.bit_words.proofs.past_set.Given as goal

abbrev pub invariant-loop-i : goal.invariant-loop-i
invariant-loop-i l = (j : ℕ) → word_bits * l.i ≤ j → j < word_bits * length l.words → is_set l.words j ≡ false
