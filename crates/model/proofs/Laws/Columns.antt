-- One step of the readers of fields and lines at a position of a list, for loops that go by an index. What is left of the list is `drop i s`.
-- Assumes nothing.
use Rattle.std.specs.Prelude.{ℕ, zero, suc, ◌+◌, ◌-◌, ◌*◌, ◌/◌, ◌%◌, ◌≤◌, ◌<◌, ◌≡◌, refl, Bool, true, false, cond, List, [], ◌∷◌, ◌++◌, length, get_or, take, drop, set, leb, eqb}
use Rattle.std.proofs.Common.{sym, ◌∙◌, append_assoc, arith, add-one, drop_of_length-le, length-take, length-drop, drop-cons, take-suc, get_or-drop}
use Rattle.std.proofs.Math.Path.{ap}
use Rattle.std.proofs.Math.Option.{none}
use borrow.Author.Tests.{leb-true, eqb-true, eqb-false, le-leb, lt-leb, eq-eqb, ne_eqb}
use Rattle.model.proofs.Laws.List.{drop-set}
use Rattle.model.proofs.Laws.Test.{and_both}
use Rattle.model.specs.Columns.{is_digit, digits, number, field, padded, justified, between, Line, ended, unended, prepend, lines}
use Rattle.model.specs.Laws.Columns.{prepend_all}

pub of_other : (b : ℕ) (l : List ℕ) → (b ≡ 48 → ⊥) → number b l ≡ digits 0 (b ∷ l)
unfolding number
of_other b [] e = refl
of_other b (c ∷ cs) e = simp (ne_eqb b 48 e)

module _ (s : List ℕ) (i : ℕ) (h : i < length s) where
  pub next : drop i s ≡ get_or s i 0 ∷ drop (i + 1) s
  next = rw add-one (drop-cons s i 0 h)

  pub field-blank : get_or s i 0 ≡ 32 → field (drop i s) ≡ field (drop (i + 1) s)
  unfolding field
  field-blank e = ap field (next) ∙ simp (eq-eqb (get_or s i 0) 32 e)

  pub field-other : (get_or s i 0 ≡ 32 → ⊥) → field (drop i s) ≡ number (get_or s i 0) (drop (i + 1) s)
  unfolding field
  field-other e = ap field (next) ∙ simp (ne_eqb (get_or s i 0) 32 e)

  pub digits_more : (n : ℕ) → 48 ≤ get_or s i 0 → get_or s i 0 ≤ 57 → digits n (drop i s) ≡ digits (n * 10 + (get_or s i 0 - 48)) (drop (i + 1) s)
  unfolding digits is_digit
  digits_more n low high = ap (digits n) (next) ∙ simp (le-leb 48 (get_or s i 0) low, le-leb (get_or s i 0) 57 high)

  pub digits_low : (n : ℕ) → get_or s i 0 < 48 → digits n (drop i s) ≡ none
  unfolding digits is_digit
  digits_low n low = ap (digits n) (next) ∙ simp (lt-leb 48 (get_or s i 0) low)

  pub digits-high : (n : ℕ) → 57 < get_or s i 0 → digits n (drop i s) ≡ none
  unfolding digits is_digit
  digits-high n high = ap (digits n) (next) ∙ simp (le-leb 48 (get_or s i 0) (omega arith), lt-leb (get_or s i 0) 57 high)

  -- A zero with more after it is no number.
  pub number-zero-led : get_or s i 0 ≡ 48 → i + 1 < length s → number (get_or s i 0) (drop (i + 1) s) ≡ none
  unfolding number
  number-zero-led e more = ap (number (get_or s i 0)) (drop-cons s (i + 1) 0 more) ∙ simp (eq-eqb (get_or s i 0) 48 e)

  pub number-other : (get_or s i 0 ≡ 48 → ⊥) → number (get_or s i 0) (drop (i + 1) s) ≡ digits 0 (drop i s)
  number-other e = of_other (get_or s i 0) (drop (i + 1) s) e ∙ sym (ap (digits 0) (next))

  pub lines-ended : get_or s i 0 ≡ 10 → lines (drop i s) ≡ ended [] ∷ lines (drop (i + 1) s)
  unfolding lines
  lines-ended e = ap lines (next) ∙ simp (eq-eqb (get_or s i 0) 10 e)

  pub lines_more : (get_or s i 0 ≡ 10 → ⊥) → lines (drop i s) ≡ prepend (get_or s i 0) (lines (drop (i + 1) s))
  unfolding lines
  lines_more e = ap lines (next) ∙ simp (ne_eqb (get_or s i 0) 10 e)

pub prepend_all-snoc : (bs : List ℕ) (b : ℕ) (ls : List Line) → prepend_all (bs ++ (b ∷ [])) ls ≡ prepend_all bs (prepend b ls)
unfolding prepend_all
prepend_all-snoc [] b ls = refl
prepend_all-snoc (c ∷ bs) b ls = ap (prepend c) (prepend_all-snoc bs b ls)

pub prepend_all-ended : (bs : List ℕ) (ls : List Line) → prepend_all bs (ended [] ∷ ls) ≡ ended bs ∷ ls
unfolding prepend_all prepend
prepend_all-ended [] ls = refl
prepend_all-ended (b ∷ bs) ls = ap (prepend b) (prepend_all-ended bs ls)

pub prepend_all-unended : (bs : List ℕ) → 0 < length bs → prepend_all bs [] ≡ unended ∷ []
unfolding prepend_all prepend
prepend_all-unended [] h = absurd (omega arith)
prepend_all-unended (b ∷ []) h = refl
prepend_all-unended (b ∷ c ∷ bs) h = ap (prepend b) (prepend_all-unended (c ∷ bs) (omega arith))

-- One byte more of a line that starts at `at`.
taken_next : (s : List ℕ) (at i : ℕ) → at ≤ i → i < length s → take (i + 1 - at) (drop at s) ≡ take (i - at) (drop at s) ++ (get_or s i 0 ∷ [])
taken_next s at i low high =
    let one_more : i + 1 - at ≡ suc (i - at) = omega arith in
    let same : at + (i - at) ≡ i = omega arith in
    let read : get_or (drop at s) (i - at) 0 ≡ get_or s i 0 = get_or-drop at s (i - at) 0 ∙ ap (λ (n : ℕ). get_or s n 0) same in
    rw one_more
    (take-suc (drop at s) (i - at) 0 (simp length-drop (omega arith)) ∙ ap (λ (b : ℕ). take (i - at) (drop at s) ++ (b ∷ [])) read)

pub line_step : (s : List ℕ) (at i : ℕ) → at ≤ i → i < length s → (get_or s i 0 ≡ 10 → ⊥)
    → prepend_all (take (i - at) (drop at s)) (lines (drop i s)) ≡ prepend_all (take (i + 1 - at) (drop at s)) (lines (drop (i + 1) s))
line_step s at i low high other =
    ap (prepend_all (take (i - at) (drop at s))) (lines_more s i high other)
    ∙ sym (prepend_all-snoc (take (i - at) (drop at s)) (get_or s i 0) (lines (drop (i + 1) s)))
    ∙ ap (λ (l : List ℕ). prepend_all l (lines (drop (i + 1) s))) (sym (taken_next s at i low high))

pub line-start : (s : List ℕ) (at : ℕ) → lines (drop at s) ≡ prepend_all (take (at - at) (drop at s)) (lines (drop at s))
unfolding prepend_all
line-start s at = let e : at - at ≡ 0 = omega arith in rw e

pub line-ended : (s : List ℕ) (at i : ℕ) → i < length s → get_or s i 0 ≡ 10
    → prepend_all (take (i - at) (drop at s)) (lines (drop i s)) ≡ ended (take (i - at) (drop at s)) ∷ lines (drop (i + 1) s)
line-ended s at i high e =
    ap (prepend_all (take (i - at) (drop at s))) (lines-ended s i high e) ∙ prepend_all-ended (take (i - at) (drop at s)) (lines (drop (i + 1) s))

pub line-unended : (s : List ℕ) (at i : ℕ) → at < length s → length s ≤ i → prepend_all (take (i - at) (drop at s)) (lines (drop i s)) ≡ unended ∷ []
unfolding lines
line-unended s at i low high =
    ap (λ (l : List ℕ). prepend_all (take (i - at) (drop at s)) (lines l)) (drop_of_length-le s high)
    ∙ prepend_all-unended (take (i - at) (drop at s)) (simp (length-take, length-drop) (omega arith))

pub lines-nothing : (s : List ℕ) (at : ℕ) → length s ≤ at → lines (drop at s) ≡ []
unfolding lines
lines-nothing s at h = ap lines (drop_of_length-le s h)

-- Where bytes are left there is a line.
prepended : (b : ℕ) (ls : List Line) → (l : Line) × (more : List Line) × (prepend b ls ≡ l ∷ more)
unfolding prepend
prepended b [] = (unended, [], refl)
prepended b (ended bs ∷ ls) = (ended (b ∷ bs), ls, refl)
prepended b (unended ∷ ls) = (unended, ls, refl)

pub lines_left : (s : List ℕ) (at : ℕ) → at < length s → (l : Line) × (more : List Line) × (lines (drop at s) ≡ l ∷ more)
lines_left s at h = go (eqb (get_or s at 0) 10) refl
  where
    go : (t : Bool) → eqb (get_or s at 0) 10 ≡ t → (l : Line) × (more : List Line) × (lines (drop at s) ≡ l ∷ more)
    go true e = (ended [], lines (drop (at + 1) s), lines-ended s at h (eqb-true (get_or s at 0) 10 e))
    go false e =
        let (l, more, q) = prepended (get_or s at 0) (lines (drop (at + 1) s)) in
        (l, more, lines_more s at h (eqb-false (get_or s at 0) 10 e) ∙ q)

-- A byte stored at `k` joins what stands before it.
stored : (xs : List ℕ) (l : List ℕ) (k d : ℕ) → k < length l → xs ++ drop k (set l k d) ≡ (xs ++ (d ∷ [])) ++ drop (suc k) l
stored xs l k d h = ap (λ (t : List ℕ). xs ++ t) (drop-set l k d h) ∙ sym (append_assoc xs (d ∷ []) (drop (suc k) l))

-- The writer's step: the column before the filled ones gets the last digit of what is left.
pub padded-step : (at rest : ℕ) (l : List ℕ) → 0 < at → at ≤ length l
    → padded (at - 1) (rest / 10) ++ drop (at - 1) (set l (at - 1) (cond (eqb rest 0) 32 (48 + rest % 10))) ≡ padded at rest ++ drop at l
unfolding padded
padded-step zero rest l pos h = absurd (omega arith)
padded-step (suc k) rest l pos h =
    let e : suc k - 1 ≡ k = omega arith in
    rw e (stored (padded k (rest / 10)) l k (cond (eqb rest 0) 32 (48 + rest % 10)) h)

-- The writer's first step, which always writes a digit.
pub justified-step : (width n : ℕ) (l : List ℕ) → 1 ≤ width → width ≤ length l
    → padded (width - 1) (n / 10) ++ drop (width - 1) (set l (width - 1) (48 + n % 10)) ≡ justified width n ++ drop width l
unfolding justified
justified-step zero n l pos h = absurd (omega arith)
justified-step (suc k) n l pos h =
    let e : suc k - 1 ≡ k = omega arith in
    rw e (stored (padded k (n / 10)) l k (48 + n % 10) h)

pub padded-done : (at rest : ℕ) (l : List ℕ) → at ≤ 0 → padded at rest ++ drop at l ≡ l
unfolding padded
padded-done zero rest l h = refl
padded-done (suc k) rest l h = absurd (omega arith)

pub between-true : (low high n : ℕ) → between low high n ≡ true → (low ≤ n) × (n ≤ high)
unfolding between
between-true low high n e =
    let (a, b) = and_both (leb low n) (leb n high) e in
    (leb-true low n a, leb-true n high b)
