-- Bits of one number of any length: after an or, an and, a complement, and where the zeros at either end stop. By induction on the digits.
-- Assumes nothing.
use Prim.Native.Nat.{ℕ, zero, suc, ◌+◌, ◌-◌, ◌*◌, ◌/◌, ◌%◌, ◌^◌, ◌≤◌, ◌<◌, min, max}
use mathlib.Core.Path.{◌≡◌, refl, sym, ap, ◌∙◌}
use native.Mathlib.Nat.{div-eq_of_lt, div-eq_of_lt-le, pow-suc, lt_of_lt_of_le}
use native.Mathlib.Numerals.{one-add}
use native.Mathlib.Omega.{arith}
use lib.Arith.{digits_mod}
use lib.Bits.{bit_and, bit_or, and_shr, or_shr, and_step, or_step, shifted_half, shifted_even}
use lib.Count.{count_leading_zeros, count_trailing_zeros, under, leading_top}
use lib.Pow.{pow_mono, pow-lt, shl_exact, shl-shr, shr-shr}
use Rattle.bit_words.specs.View.{bit, LowestSet}

-- A bit is 0 or 1.
pub bit-lt : (n j : ℕ) → bit n j < 2
bit-lt n j = omega arith

-- The lowest digit taken off.
bit-half : (n j : ℕ) → bit n (suc j) ≡ bit (n / 2) j
bit-half n j = ap (λ (k : ℕ). n / 2 ^ k % 2) (sym (one-add j)) ∙ ap (λ (x : ℕ). x % 2) (sym (shr-shr n 1 j))

-- No bit is set past a number's length.
pub bit-above : {n m j : ℕ} → n < 2 ^ m → m ≤ j → bit n j ≡ 0
bit-above h l = ap (λ (x : ℕ). x % 2) (div-eq_of_lt (lt_of_lt_of_le h (pow_mono l)))

-- ---- the two operations, and the complement

module _ (op f : ℕ → ℕ → ℕ)
    (shift : (a b k : ℕ) → op a b / 2 ^ k ≡ op (a / 2 ^ k) (b / 2 ^ k))
    (step : (a b : ℕ) → op a b ≡ op (a / 2) (b / 2) * 2 + f (a % 2) (b % 2))
    (small : (a b : ℕ) → f (a % 2) (b % 2) < 2) where
  op-bit : (a b j : ℕ) → bit (op a b) j ≡ f (bit a j) (bit b j)
  op-bit a b j =
      let x = a / 2 ^ j in
      let y = b / 2 ^ j in
      ap (λ (n : ℕ). n % 2) (shift a b j ∙ step x y) ∙ digits_mod (op (x / 2) (y / 2)) (small x y)

or-bit : (a b j : ℕ) → bit (bit_or a b) j ≡ max (bit a j) (bit b j)
or-bit = op-bit bit_or max or_shr or_step (λ a b. omega arith)

and-bit : (a b j : ℕ) → bit (bit_and a b) j ≡ min (bit a j) (bit b j)
and-bit = op-bit bit_and min and_shr and_step (λ a b. omega arith)

pub not-bit : (k n j : ℕ) → n < 2 ^ k → j < k → bit ((2 ^ k - 1) - n) j ≡ 1 - bit n j
not-bit zero n j h l = absurd (omega arith)
not-bit (suc k) n zero h l = omega (arith, pow-suc 2 k)
not-bit (suc k) n (suc j) h l =
    let half : ((2 ^ suc k - 1) - n) / 2 ≡ (2 ^ k - 1) - n / 2 = omega (arith, pow-suc 2 k) in
    bit-half ((2 ^ suc k - 1) - n) j ∙ ap (λ (x : ℕ). bit x j) half
    ∙ not-bit k (n / 2) j (omega (arith, pow-suc 2 k)) (omega arith)
    ∙ ap (λ (x : ℕ). 1 - x) (sym (bit-half n j))

-- ---- a mask of one bit

mask-own : (k : ℕ) → bit (1 * 2 ^ k) k ≡ 1
mask-own k = ap (λ (x : ℕ). x % 2) (shl-shr 1 k)

mask-other : (k j : ℕ) → (j ≡ k → ⊥) → bit (1 * 2 ^ k) j ≡ 0
mask-other zero zero f = absurd (f refl)
mask-other zero (suc j) f = bit-above {n = 1} {m = 1} (omega arith) (omega arith)
mask-other (suc k) zero f = omega (arith, shifted_even 1 k)
mask-other (suc k) (suc j) f =
    bit-half (1 * 2 ^ suc k) j ∙ ap (λ (x : ℕ). bit x j) (shifted_half 1 k) ∙ mask-other k j (λ e. f (ap suc e))

-- The mask as a word of w bits holds it: nothing is shifted out.
module _ (w n k : ℕ) (inside : k < w) where
  mask-exact : (1 * 2 ^ k) % 2 ^ w ≡ 1 * 2 ^ k
  mask-exact = shl_exact {a = 1} 1 k w (omega arith) (omega arith)

  pub or-own : bit (bit_or n ((1 * 2 ^ k) % 2 ^ w)) k ≡ 1
  or-own = rw mask-exact (omega (arith, or-bit n (1 * 2 ^ k) k, mask-own k, bit-lt n k))

  pub or-other : (j : ℕ) → (j ≡ k → ⊥) → bit (bit_or n ((1 * 2 ^ k) % 2 ^ w)) j ≡ bit n j
  or-other j f = rw mask-exact (omega (arith, or-bit n (1 * 2 ^ k) j, mask-other k j f))

  mask_fits : 1 * 2 ^ k < 2 ^ w
  mask_fits = omega (arith, pow-lt inside)

  pub and-own : bit (bit_and n ((2 ^ w - 1) - (1 * 2 ^ k) % 2 ^ w)) k ≡ 0
  and-own =
      rw mask-exact
      (omega (arith, and-bit n ((2 ^ w - 1) - 1 * 2 ^ k) k, not-bit w (1 * 2 ^ k) k mask_fits inside, mask-own k))

  pub and-other : (j : ℕ) → j < w → (j ≡ k → ⊥) → bit (bit_and n ((2 ^ w - 1) - (1 * 2 ^ k) % 2 ^ w)) j ≡ bit n j
  and-other j h f =
      rw mask-exact
      (omega (arith, and-bit n ((2 ^ w - 1) - 1 * 2 ^ k) j, not-bit w (1 * 2 ^ k) j mask_fits h, mask-other k j f, bit-lt n j))

-- ---- the zeros at either end

clear_step : (n t : ℕ) → bit n 0 ≡ 0 → ((j : ℕ) → j < t → bit (n / 2) j ≡ 0) → (j : ℕ) → j < suc t → bit n j ≡ 0
clear_step n t e rest zero l = e
clear_step n t e rest (suc j) l = bit-half n j ∙ rest j (omega arith)

-- The lowest set bit is where the trailing zeros end.
pub lowest : (k n : ℕ) → 0 < n → n < 2 ^ k → LowestSet k n (count_trailing_zeros k n)
unfolding count_trailing_zeros
lowest zero n p h = absurd (omega arith)
lowest (suc k) n p h = go (λ q. lowest k (n / 2) q (omega (arith, pow-suc 2 k))) (n % 2) refl
  where
    go : (0 < n / 2 → LowestSet k (n / 2) (count_trailing_zeros k (n / 2))) → (d : ℕ) → n % 2 ≡ d → LowestSet (suc k) n (under d (count_trailing_zeros k (n / 2)))
    go rest zero e =
        let low = rest (omega arith) in
        record {
          inside = omega (arith, low.inside);
          set = bit-half n (count_trailing_zeros k (n / 2)) ∙ low.set;
          clear-before = clear_step n (count_trailing_zeros k (n / 2)) (omega arith) low.clear-before;
        }
    go rest (suc d) e = record { inside = omega arith; set = omega arith; clear-before = λ j l. absurd (omega arith) }

-- The highest set bit is where the leading zeros end: past it none is set.
pub highest : (k n : ℕ) → 0 < n → n < 2 ^ k
    → (j : ℕ) × (count_leading_zeros k n + suc j ≡ k) × (bit n j ≡ 1) × ((i : ℕ) → j < i → bit n i ≡ 0)
highest k n p h =
    let top = leading_top k n p h in
    let j = top.0 in
    let one : n / 2 ^ j ≡ 1 = div-eq_of_lt-le (2 ^ j) (omega (arith, top.2)) (omega (arith, pow-suc 2 j, top.3)) in
    (j, top.1, ap (λ (x : ℕ). x % 2) one, λ i l. bit-above top.3 l)
