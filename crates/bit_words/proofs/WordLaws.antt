-- Bits of words: what one word's bits say of all of them. Bit j lies in word j / 64, so a bit is in the word asked about or in one settled before.
-- Assumes nothing.
use Prim.Native.Nat.{ℕ, ◌+◌, ◌-◌, ◌*◌, ◌/◌, ◌%◌, ◌^◌, ◌≤◌, ◌<◌}
use mathlib.Core.Path.{◌≡◌, refl, ap, ap₂, ◌∙◌}
use mathlib.Core.Bool.{true, false}
use mathlib.Core.List.{List}
use native.Mathlib.Decide.{dec_lt, ℕ_discrete}
use native.Mathlib.Omega.{arith}
use lib.Dec.{eqb}
use lib.ListN.{length, get_or, set, length-set}
use lib.Count.{count_leading_zeros}
use lib.Seq.{get_or-set_same, get_or-set_other}
use Rattle.bit_words.specs.View.{bit, word_bits, is_set, LowestSet, LeastClear, PastSet, BitChanged}
use Rattle.bit_words.proofs.BitLaws.{bit-lt, bit-above, not-bit, highest}

-- Bit j, from the word that it lies in.
is-bit : (words : List ℕ) (j w b v : ℕ) → j / word_bits ≡ w → j % word_bits ≡ b → bit (get_or words w 0) b ≡ v → is_set words j ≡ eqb v 1
unfolding is_set
is-bit words j w b v e f h = ap₂ (λ (x y : ℕ). eqb (bit (get_or words x 0) y) 1) e f ∙ ap (λ (x : ℕ). eqb x 1) h

module _ (words : List ℕ) where
  -- The t lowest bits of word i are set too.
  set_more : (i t : ℕ) → t ≤ word_bits → ((j : ℕ) → j < word_bits * i → is_set words j ≡ true)
      → ((b : ℕ) → b < t → bit (get_or words i 0) b ≡ 1) → (j : ℕ) → j < word_bits * i + t → is_set words j ≡ true
  set_more i t h below own j lt = go (dec_lt j (word_bits * i))
    where
      go : Dec (j < word_bits * i) → is_set words j ≡ true
      go (yes l) = below j l
      go (no l) = is-bit words j i (j % word_bits) 1 (omega arith) refl (own (j % word_bits) (omega arith))

  -- The bits of word w from t on are clear too.
  clear-more : (w t : ℕ) → ((j : ℕ) → word_bits * (w + 1) ≤ j → j < word_bits * length words → is_set words j ≡ false)
      → ((b : ℕ) → t ≤ b → bit (get_or words w 0) b ≡ 0) → (j : ℕ) → word_bits * w + t ≤ j → j < word_bits * length words → is_set words j ≡ false
  clear-more w t after own j low lt = go (dec_lt j (word_bits * (w + 1)))
    where
      go : Dec (j < word_bits * (w + 1)) → is_set words j ≡ false
      go (yes l) = is-bit words j w (j % word_bits) 0 (omega arith) refl (own (j % word_bits) (omega arith))
      go (no l) = after j (omega arith) lt

  -- The bits before word i are set: it has a clear bit, or none.
  module _ (i : ℕ) (fits : get_or words i 0 < 2 ^ word_bits) (below : (j : ℕ) → j < word_bits * i → is_set words j ≡ true) where
    set-where : (b : ℕ) → b < word_bits → bit ((2 ^ word_bits - 1) - get_or words i 0) b ≡ 0 → bit (get_or words i 0) b ≡ 1
    set-where b l e = omega (arith, not-bit word_bits (get_or words i 0) b fits l, bit-lt (get_or words i 0) b)

    pub least-found : {clear : ℕ} → clear ≡ (2 ^ word_bits - 1) - get_or words i 0 → (t : ℕ) → i < length words → LowestSet word_bits clear t
        → LeastClear words (word_bits * i + t)
    least-found e t inside lowest =
        let low = rw e at lowest in
        record {
          inside = omega (arith, low.inside);
          set_before = set_more i t (omega (arith, low.inside)) below (λ b l. set-where b (omega (arith, low.inside)) (low.clear-before b l));
          clear = λ h. is-bit words (word_bits * i + t) i t 0 (omega (arith, low.inside)) (omega (arith, low.inside))
              (omega (arith, not-bit word_bits (get_or words i 0) t fits low.inside, low.set));
        }

    pub word-full : (2 ^ word_bits - 1) - get_or words i 0 ≡ 0 → (j : ℕ) → j < word_bits * (i + 1) → is_set words j ≡ true
    word-full e j lt = set_more i word_bits (omega arith) below (λ b l. set-where b l (bit-above {m = 0} (omega arith) (omega arith))) j (omega arith)

  -- The bits past word w are clear: it has a set bit, or none.
  module _ (w : ℕ) (after : (j : ℕ) → word_bits * (w + 1) ≤ j → j < word_bits * length words → is_set words j ≡ false) where
    pub past-found : w < length words → 0 < get_or words w 0 → get_or words w 0 < 2 ^ word_bits → PastSet words (word_bits * (w + 1) - count_leading_zeros word_bits (get_or words w 0))
    past-found inside p fits =
        let top = highest word_bits (get_or words w 0) p fits in
        let place : word_bits * (w + 1) - count_leading_zeros word_bits (get_or words w 0) ≡ word_bits * w + (top.0 + 1) = omega (arith, top.1) in
        record {
          inside = omega arith;
          clear-after = λ j low. clear-more w (top.0 + 1) after (λ b l. top.3 b (omega arith)) j (omega arith);
          set = λ j lt last. is-bit words j w top.0 1 (omega (arith, top.1)) (omega (arith, top.1)) top.2;
        }

    pub word-clear : get_or words w 0 ≡ 0 → (j : ℕ) → word_bits * w ≤ j → j < word_bits * length words → is_set words j ≡ false
    word-clear e j low = clear-more w 0 after (λ b l. bit-above {m = 0} (omega arith) (omega arith)) j (omega arith)

  -- A word stored that differs from the one before in bit at % 64 alone, which is v.
  module _ (at word v : ℕ) (inside : at < word_bits * length words) (own : bit word (at % word_bits) ≡ v)
      (others : (b : ℕ) → b < word_bits → (b ≡ at % word_bits → ⊥) → bit word b ≡ bit (get_or words (at / word_bits) 0) b) where
    others-kept : (j : ℕ) → (j ≡ at → ⊥) → is_set (set words (at / word_bits) word) j ≡ is_set words j
    unfolding is_set
    others-kept j other = ap (λ (x : ℕ). eqb x 1) (go (ℕ_discrete (j / word_bits) (at / word_bits)))
      where
        go : Dec (j / word_bits ≡ at / word_bits) → bit (get_or (set words (at / word_bits) word) (j / word_bits) 0) (j % word_bits) ≡ bit (get_or words (j / word_bits) 0) (j % word_bits)
        go (yes e) = rw (e, get_or-set_same words (at / word_bits) word 0 (omega arith)) (others (j % word_bits) (omega arith) (λ f. other (omega arith)))
        go (no e) = ap (λ (x : ℕ). bit x (j % word_bits)) (get_or-set_other words (at / word_bits) (j / word_bits) word 0 e)

    pub bit-stored : BitChanged at (eqb v 1) words (set words (at / word_bits) word)
    bit-stored =
        record {
          long = length-set words (at / word_bits) word;
          own = is-bit (set words (at / word_bits) word) at (at / word_bits) (at % word_bits) v refl refl
              (ap (λ (x : ℕ). bit x (at % word_bits)) (get_or-set_same words (at / word_bits) word 0 (omega arith)) ∙ own);
          others = others-kept;
        }
