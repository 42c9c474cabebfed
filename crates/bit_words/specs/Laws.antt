-- The definitions fix what is found: there is one least clear bit, past all bits just where all are set, and one position past the
-- greatest set bit. And new words are clear, which callers cite. Assumes nothing.
use Rattle.std.specs.Prelude.{ℕ, zero, suc, ◌-◌, ◌*◌, ◌/◌, ◌%◌, ◌^◌, ◌<◌, ◌≡◌, refl, true, false, List, eqb, length, get_or, replicate}
use Rattle.std.proofs.Common.{sym, ap, ◌∙◌, true≢false, arith}
use Rattle.std.proofs.Math.Nat.{zero-div}
use Rattle.bit_words.specs.View.{bit, word_bits, is_set, LeastClear, PastSet}

module _ (words : List ℕ) where
  -- The bits before a least clear one are set, so none of them is another.
  not-less : (r r' : ℕ) → LeastClear words r → LeastClear words r' → r < r' → ⊥
  not-less r r' least least' lt = true≢false (sym (least'.set_before r lt) ∙ least.clear (omega (arith, least'.inside)))

  pub least-unique : (r r' : ℕ) → LeastClear words r → LeastClear words r' → r ≡ r'
  least-unique r r' least least' = omega (arith, not-less r r' least least', not-less r' r least' least)

  pub least-all : (r : ℕ) → LeastClear words r
      → (r ≡ word_bits * length words → (i : ℕ) → i < word_bits * length words → is_set words i ≡ true)
      × (((i : ℕ) → i < word_bits * length words → is_set words i ≡ true) → r ≡ word_bits * length words)
  least-all r least = (
    λ e i lt. least.set_before i (omega arith),
    λ all. let not-inside : r < word_bits * length words → ⊥ = λ lt. true≢false (sym (all r lt) ∙ least.clear lt) in omega (arith, least.inside),
  )

  -- The bit before the greater of two such positions is set, and at the lesser one all are clear.
  past-not-less : (r r' : ℕ) → PastSet words r → PastSet words r' → r < r' → ⊥
  past-not-less r r' past past' lt =
      true≢false (sym (past'.set (r' - 1) (omega arith) (omega arith)) ∙ past.clear-after (r' - 1) (omega arith) (omega (arith, past'.inside)))

  pub past-unique : (r r' : ℕ) → PastSet words r → PastSet words r' → r ≡ r'
  past-unique r r' past past' = omega (arith, past-not-less r r' past past', past-not-less r' r past' past)

-- Every word of new ones is 0, and what is read past them too.
pub zero-at : (n i : ℕ) → ◌≡◌ {A = ℕ} (get_or (replicate n 0) i 0) 0
zero-at zero i = refl
zero-at (suc n) zero = refl
zero-at (suc n) (suc i) = zero-at n i

pub none-set : (n i : ℕ) → is_set (replicate n 0) i ≡ false
unfolding is_set
none-set n i =
    ap (λ (x : ℕ). eqb (bit x (i % word_bits)) 1) (zero-at n (i / word_bits))
    ∙ ap (λ (x : ℕ). eqb (x % 2) 1) (zero-div (2 ^ (i % word_bits)))
