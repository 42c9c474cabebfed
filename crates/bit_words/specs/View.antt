-- Bits of words of 64 bits, and what is found from them.
use Rattle.std.specs.Prelude.{ℕ, ◌+◌, ◌*◌, ◌/◌, ◌%◌, ◌^◌, ◌≤◌, ◌<◌, ◌≡◌, Bool, true, false, List, length, get_or, eqb}

-- Bit i of a word, the lowest first: 0 or 1.
abbrev pub bit : (word i : ℕ) → ℕ
bit word i = word / 2 ^ i % 2

-- The lowest set bit of a word of k bits.
pub record LowestSet (k word r : ℕ) : Type 0 where
  pub inside : r < k
  pub set : bit word r ≡ 1
  pub clear-before : (j : ℕ) → j < r → bit word j ≡ 0

-- How many bits a word has.
abbrev pub word_bits : ℕ
word_bits = 64

-- Whether bit i of the words is set: bit i % 64 of word i / 64.
unfoldable pub is_set : (words : List ℕ) (i : ℕ) → Bool
is_set words i = eqb (bit (get_or words (i / word_bits) 0) (i % word_bits)) 1

-- The least clear bit of the words; how many bits there are where all are set, and only then.
pub record LeastClear (words : List ℕ) (r : ℕ) : Type 0 where
  pub inside : r ≤ word_bits * length words
  pub set_before : (i : ℕ) → i < r → is_set words i ≡ true
  pub clear : r < word_bits * length words → is_set words r ≡ false

-- The position past the greatest set bit of the words; 0 where none is set, and only then.
pub record PastSet (words : List ℕ) (r : ℕ) : Type 0 where
  pub inside : r ≤ word_bits * length words
  pub clear-after : (i : ℕ) → r ≤ i → i < word_bits * length words → is_set words i ≡ false
  pub set : (i : ℕ) → i < r → r ≤ i + 1 → is_set words i ≡ true

-- Bit i is b now, and the others are as they were.
pub record BitChanged (i : ℕ) (b : Bool) (words words' : List ℕ) : Type 0 where
  pub long : length words' ≡ length words
  pub own : is_set words' i ≡ b
  pub others : (j : ℕ) → (j ≡ i → ⊥) → is_set words' j ≡ is_set words j
