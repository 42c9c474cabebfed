-- How long the fields and lines of an answer are, and that a line shows whether its code is 0. Assumes nothing.
use Rattle.std.specs.Prelude.{ℕ, zero, suc, ◌+◌, ◌/◌, ◌%◌, ◌≡◌, refl, Bool, true, false, cond, List, [], ◌∷◌, ◌++◌, length, get_or, take, drop, eqb}
use Rattle.std.proofs.Common.{ap, sym, ◌∙◌, arith, length-append, take_at, drop_at, eqb-true}
use Rattle.model.specs.Columns.{padded, justified}
use Rattle.model.specs.Reference.{Answer}
use Rattle.model.specs.Answers.{answer_columns, answer_line}

one_more : (l : List ℕ) (x w : ℕ) → length l ≡ w → length (l ++ (x ∷ [])) ≡ suc w
one_more l x w e = simp length-append (omega (arith, e))

padded-length : (w n : ℕ) → length (padded w n) ≡ w
unfolding padded
padded-length zero n = refl
padded-length (suc w) n = one_more (padded w (n / 10)) (cond (eqb n 0) 32 (48 + n % 10)) w (padded-length w (n / 10))

pub justified-length : (w n : ℕ) → length (justified w n) ≡ w
unfolding justified
justified-length zero n = refl
justified-length (suc w) n = one_more (padded w (n / 10)) (48 + n % 10) w (padded-length w (n / 10))

pub columns-length : (a : Answer) → length (answer_columns a) ≡ 13
unfolding answer_columns
columns-length a = simp (length-append, justified-length)

pub line-length : (number : ℕ) (a : Answer) → length (answer_line number a) ≡ 20
unfolding answer_line
line-length number a = simp (length-append, justified-length, columns-length)

-- Joined lists that are the same, of which the first ones are equally long.
pub joined_same : (l m : List ℕ) {l' m' : List ℕ} (n : ℕ) → length l ≡ n → length m ≡ n → l ++ l' ≡ m ++ m' → (l ≡ m) × (l' ≡ m')
joined_same l m {l'} {m'} n e e' same = (
  sym (take_at l l' n e) ∙ ap (take n) same ∙ take_at m m' n e',
  sym (drop_at l l' n e) ∙ ap (drop n) same ∙ drop_at m m' n e',
)

-- A code's columns: the last is a digit, the one before it blank only where there is no other.
code-zero : (n : ℕ) → justified 3 n ≡ justified 3 0 → n ≡ 0
unfolding justified padded
code-zero n e = omega (arith, ap (λ l. get_or l 2 0) e, blank (eqb (n / 10) 0) refl (ap (λ l. get_or l 1 0) e))
  where
    blank : (b : Bool) → eqb (n / 10) 0 ≡ b → cond b 32 (48 + n / 10 % 10) ≡ 32 → n / 10 ≡ 0
    blank true e z = eqb-true _ _ e
    blank false e z = absurd (omega arith)

-- Two answer lines that are the same: where the code of the one is 0 that of the other is.
pub zero-shown : (number : ℕ) (a b : Answer) → answer_line number a ≡ answer_line number b → b.code ≡ 0 → a.code ≡ 0
unfolding answer_line answer_columns
zero-shown number a b e z =
    let (numbers, columns) = joined_same (justified 6 number) (justified 6 number) 6 (justified-length 6 number) (justified-length 6 number) e in
    let (bodies, ends) = joined_same (answer_columns a) (answer_columns b) 13 (columns-length a) (columns-length b) columns in
    let (codes, others) = joined_same (justified 3 a.code) (justified 3 b.code) 3 (justified-length 3 a.code) (justified-length 3 b.code) bodies in
    code-zero a.code (codes ∙ ap (justified 3) z)
