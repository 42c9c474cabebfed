-- A number written in columns that it has room in is read from them again, and bytes without an LF are one line. By induction on the columns. Assumes nothing.
use Rattle.std.specs.Prelude.{ℕ, zero, suc, ◌+◌, ◌-◌, ◌*◌, ◌/◌, ◌%◌, ◌^◌, ◌≤◌, ◌<◌, ◌≡◌, refl, Bool, true, false, cond, ◌&&◌, List, [], ◌∷◌, ◌++◌, length, take, drop, leb, eqb}
use Rattle.std.proofs.Common.{ap, ◌∙◌, pow-suc, arith, length-take, length-drop, leb-true, le-leb, ne_eqb}
use Rattle.std.proofs.Math.Option.{some}
use Rattle.std.proofs.Math.Seq.{append_snoc}
use Rattle.model.specs.Words.{every}
use Rattle.model.proofs.Laws.Test.{and_both, both-and, every_append}
use Rattle.model.specs.Columns.{is_digit, digits, number, field, field_at, padded, justified, ended, prepend, lines}
use Rattle.model.proofs.Laws.Columns.{of_other}
use Rattle.model.proofs.Laws.Answers.{justified-length}

blanks : (w : ℕ) (l : List ℕ) → field (padded w 0 ++ l) ≡ field l
unfolding padded field
blanks zero l = refl
blanks (suc w) l = ap field (append_snoc (padded w 0) 32 l) ∙ blanks w (32 ∷ l)

one-digit : (n k : ℕ) (l : List ℕ) → k < 10 → digits n ((48 + k) ∷ l) ≡ digits (n * 10 + k) l
unfolding digits is_digit
one-digit n k l h =
    let own : 48 + k - 48 ≡ k = omega arith in
    rw (le-leb 48 (48 + k) (omega arith), le-leb (48 + k) 57 (omega arith), own)

first-digit : (w k : ℕ) (l : List ℕ) → k < 10 → number (48 + k) l ≡ digits 0 ((48 + k) ∷ l) → field (padded w 0 ++ ((48 + k) ∷ l)) ≡ digits (0 * 10 + k) l
unfolding field
first-digit w k l d first =
    blanks w ((48 + k) ∷ l) ∙ rw (ne_eqb (48 + k) 32 (λ e. omega (arith, e))) (first ∙ one-digit 0 k l d)

-- A digit behind a number in columns.
digit-after : (w n k : ℕ) (l : List ℕ) → n < 10 ^ w → k < 10 → (n ≡ 0 → number (48 + k) l ≡ digits 0 ((48 + k) ∷ l))
    → field (padded w n ++ ((48 + k) ∷ l)) ≡ digits (n * 10 + k) l
unfolding padded
digit-after zero zero k l h d first = first-digit 0 k l d (first refl)
digit-after zero (suc n) k l h d first = absurd (omega arith)
digit-after (suc w) zero k l h d first = first-digit (suc w) k l d (first refl)
digit-after (suc w) (suc n) k l h d first =
    let same : suc n / 10 * 10 + suc n % 10 ≡ suc n = omega arith in
    rw (ne_eqb (suc n) 0 (λ e. omega (arith, e)))
    (ap field (append_snoc (padded w (suc n / 10)) (48 + suc n % 10) ((48 + k) ∷ l))
    ∙ digit-after w (suc n / 10) (suc n % 10) ((48 + k) ∷ l) (omega (arith, pow-suc 10 w)) (omega arith)
    (λ z. of_other (48 + suc n % 10) ((48 + k) ∷ l) (λ e. omega (arith, z, e)))
    ∙ ap (λ (m : ℕ). digits m ((48 + k) ∷ l)) same
    ∙ one-digit (suc n) k l d)

field-justified : (w n : ℕ) → n < 10 ^ suc w → field (justified (suc w) n) ≡ some n
unfolding justified number digits
field-justified w n h =
    let same : n / 10 * 10 + n % 10 ≡ n = omega arith in
    digit-after w (n / 10) (n % 10) [] (omega (arith, pow-suc 10 w)) (omega arith) (λ z. refl) ∙ ap some same

-- In the `suc w` columns behind the first `s` of a line.
pub field-behind : (s w n : ℕ) (line : List ℕ) → take (suc w) (drop s line) ≡ justified (suc w) n → n < 10 ^ suc w
    → field_at (suc s) (s + suc w) line ≡ some n
unfolding field_at
field-behind s w n line e h =
    let long : s + suc w ≤ length line = omega (arith, length-take (suc w) (drop s line), length-drop s line, ap length e, justified-length (suc w) n) in
    let start : suc s - 1 ≡ s = omega arith in
    let wide : s + suc w - s ≡ suc w = omega arith in
    rw (le-leb (s + suc w) (length line) long, start, wide, e) (field-justified w n h)

-- Bytes from the blank on: no LF is among them.
unfoldable pub printed : List ℕ → Bool
printed = every (leb 32)

pub printed-both : (l m : List ℕ) → printed (l ++ m) ≡ (printed l && printed m)
unfolding printed
printed-both = every_append (leb 32)

padded-printed : (w n : ℕ) → printed (padded w n) ≡ true
unfolding padded printed every
padded-printed zero n = refl
padded-printed (suc w) n = printed-both (padded w (n / 10)) _ ∙ both-and (padded-printed w (n / 10)) (last (eqb n 0))
  where
    last : (b : Bool) → (leb 32 (cond b 32 (48 + n % 10)) && true) ≡ true
    last true = refl
    last false = rw (le-leb 32 (48 + n % 10) (omega arith))

pub justified-printed : (w n : ℕ) → printed (justified w n) ≡ true
unfolding justified printed every
justified-printed zero n = refl
justified-printed (suc w) n = printed-both (padded w (n / 10)) _ ∙ rw (padded-printed w (n / 10), le-leb 32 (48 + n % 10) (omega arith))

pub one_line : (bs rest : List ℕ) → printed bs ≡ true → lines (bs ++ (10 ∷ rest)) ≡ ended bs ∷ lines rest
unfolding lines prepend printed every
one_line [] rest p = refl
one_line (b ∷ bs) rest p =
    let (first, others) = and_both (leb 32 b) (every (leb 32) bs) p in
    rw (ne_eqb b 10 (λ e. omega (arith, e, leb-true 32 b first)), one_line bs rest others)
