-- `bit_words::clear_bit` meets its contract. The and with the complement of the mask clears that bit and no other.
use Prim.Native.Nat.{◌/◌, ◌%◌}
use native.Mathlib.Omega.{arith}
use lib.ListN.{get_or}
use Rattle.bit_words.specs.View.{word_bits}
use Rattle.bit_words.proofs.BitLaws.{and-own, and-other}
use Rattle.bit_words.proofs.WordLaws.{bit-stored}
use Rattle.bit_words.proofs.clear_bit.Goals as goal

pub returns : goal.returns
returns c =
    let words = c.args.words.now in
    let at = c.args.at in
    let word = get_or words (at / word_bits) 0 in
    bit-stored words at _ 0 c.requires (and-own word_bits word (at % word_bits) (omega arith)) (and-other word_bits word (at % word_bits) (omega arith))
