-- `columns::read_digits` meets its contract. The invariant: the digits passed make `n`, which has at most as many digits, and the rest goes on from there.
use Prim.Native.Nat.{ℕ, ◌^◌, ◌≤◌, ◌<◌}
use mathlib.Core.Path.{sym, ◌∙◌, ap, refl}
use Rattle.std.proofs.Common.{inl, inr}
use native.Mathlib.Nat.{pow-le-pow_right, pow-suc}
use native.Mathlib.Omega.{arith}
use native.Mathlib.Numerals.{add-one}
use lib.ListN.{get_or, drop_of_length-le}
use lib.Dec.{lit≤}
use Rattle.model.specs.Columns.{digits}
use Rattle.model.proofs.Laws.Columns.{digits_more, digits_low, digits-high}
use Rattle.columns.proofs.read_digits.Goals as goal

-- A turn comes before the ninth digit.
small : (n i : ℕ) → n < 10 ^ i → i ≤ 8 → n < 10 ^ 8
small n i h le = omega (arith, pow-le-pow_right {n = 10} (lit≤ tt) le)

-- The byte is a digit.
digit : (c : goal.After-from) → let b = get_or c.args.s.now c.loop-byte.byte-index 0 in (48 ≤ b) × (b ≤ 57)
digit c = let e = c.if-not-is_ascii_digit.ensures.cases in (omega (arith, e), omega (arith, e))

pub loop-byte-init : goal.loop-byte-init
loop-byte-init c = (omega arith, refl)

pub returns-then-not-is_ascii_digit : goal.returns-then-not-is_ascii_digit
returns-then-not-is_ascii_digit c =
    let at = c.loop-byte in
    let s = c.args.s.now in
    sym
    (at.invariant.1
    ∙ (elim c.if-not-is_ascii_digit.ensures.cases [
      | inl low ↦ digits_low s at.byte-index (omega arith) at.n low
      | inr high ↦ digits-high s at.byte-index (omega arith) at.n high
    ]))

pub overflow_mul-n : goal.overflow_mul-n
overflow_mul-n c = omega (arith, small c.loop-byte.n c.loop-byte.byte-index c.loop-byte.invariant.0 (omega (arith, c.requires)))

pub overflow_add-n : goal.overflow_add-n
overflow_add-n c = omega (arith, small c.loop-byte.n c.loop-byte.byte-index c.loop-byte.invariant.0 (omega (arith, c.requires)), digit c)

pub loop-byte-preserved : goal.loop-byte-preserved
loop-byte-preserved c =
    let at = c.loop-byte in
    let i = at.byte-index in (
      rw (add-one i) (omega (arith, pow-suc 10 i, digit c)),
      at.invariant.1 ∙ rw c.from.ensures (digits_more c.args.s.now i (omega arith) at.n (omega (arith, digit c)) (omega (arith, digit c))),
    )

pub returns : goal.returns
unfolding digits
returns c = sym (c.loop-byte.invariant.1 ∙ ap (digits c.loop-byte.n) (drop_of_length-le c.args.s.now (omega arith)))
