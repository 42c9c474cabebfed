-- `bit_words::lowest_set` meets its contract. The trailing zeros end at the lowest set bit.
use Rattle.bit_words.specs.View.{word_bits}
use Rattle.bit_words.proofs.BitLaws.{lowest}
use Rattle.bit_words.proofs.lowest_set.Goals as goal

pub returns : goal.returns
returns c = lowest word_bits c.args.word c.requires c.ranges.word.fits
