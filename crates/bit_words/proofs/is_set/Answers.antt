-- `bit_words::is_set` meets its contract. The shift and the rest by 2 are the definition of a bit.
use borrow.Author.Rules.{rules}
use Rattle.bit_words.specs.View.{is_set}
use Rattle.bit_words.proofs.is_set.Goals as goal

pub returns : goal.returns
unfolding is_set
returns c = search rules
