-- Document 01, "Columns": what a field of bytes says, and the lines of a text.
use Rattle.std.specs.Prelude.{ℕ, zero, suc, ◌+◌, ◌-◌, ◌*◌, ◌/◌, ◌%◌, Bool, cond, ◌&&◌, List, [], ◌∷◌, ◌++◌, length, take, drop, leb, eqb}
use Rattle.std.proofs.Math.Option.{Option, none, some}

-- 0 to 9.
unfoldable pub is_digit : ℕ → Bool
is_digit b = leb 48 b && leb b 57

-- The number that goes on with these digits after `n`, or none where a byte is no digit.
unfoldable pub digits : ℕ → List ℕ → Option ℕ
digits n [] = some n
digits n (b ∷ bs) = cond (is_digit b) (digits (n * 10 + (b - 48)) bs) none

-- A number that starts with this byte: no leading zero except the number 0 itself.
unfoldable pub number : ℕ → List ℕ → Option ℕ
number b [] = digits 0 (b ∷ [])
number b (c ∷ cs) = cond (eqb b 48) none (digits 0 (b ∷ c ∷ cs))

-- A field: blanks to the left, at least one digit, right-justified. None where it is malformed.
unfoldable pub field : List ℕ → Option ℕ
field [] = none
field (b ∷ bs) = cond (eqb b 32) (field bs) (number b bs)

-- The field in columns `first` to `last` of a line, counted from 1. None where the line is too short.
unfoldable pub field_at : (first last : ℕ) → List ℕ → Option ℕ
field_at first last line = cond (leb last (length line)) (field (take (last - (first - 1)) (drop (first - 1) line))) none

-- A number written in so many columns, filled from the right: first the digits that are left, then blanks.
unfoldable pub padded : (width n : ℕ) → List ℕ
padded zero n = []
padded (suc w) n = padded w (n / 10) ++ (cond (eqb n 0) 32 (48 + n % 10) ∷ [])

-- The same with at least one digit. Of a number with more digits than columns the last ones are written.
unfoldable pub justified : (width n : ℕ) → List ℕ
justified zero n = []
justified (suc w) n = padded w (n / 10) ++ ((48 + n % 10) ∷ [])

-- A line with a number written in columns `first` to `last`, counted from 1.
unfoldable pub written_at : (first last n : ℕ) → List ℕ → List ℕ
written_at first last n line = take (first - 1) line ++ (justified (last - (first - 1)) n ++ drop last line)

-- What is said of a list that breaks off: `end`, and in 10 columns where.
unfoldable pub end_line : (n : ℕ) → List ℕ
end_line n = 101 ∷ 110 ∷ 100 ∷ (justified 10 n ++ (10 ∷ []))

-- The range from `low` to `high`, both in it.
unfoldable pub between : (low high n : ℕ) → Bool
between low high n = leb low n && leb n high

-- A line that ends in LF, with the bytes before that; or the bytes after the last LF, which are one malformed line and aren't read.
pub data Line : Type 0 where
  ended : List ℕ → Line
  unended : Line

-- One more byte at the front of the first line.
unfoldable pub prepend : ℕ → List Line → List Line
prepend b [] = unended ∷ []
prepend b (ended bs ∷ ls) = ended (b ∷ bs) ∷ ls
prepend b (unended ∷ ls) = unended ∷ ls

-- The lines of a text. An empty text has none.
unfoldable pub lines : List ℕ → List Line
lines [] = []
lines (b ∷ bs) = cond (eqb b 10) (ended [] ∷ lines bs) (prepend b (lines bs))
