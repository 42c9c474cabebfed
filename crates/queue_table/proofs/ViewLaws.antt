-- The view of the array: its links one by one, and what the model's tests say of the newest.
-- Assumes nothing.
use Prim.Native.Nat.{ℕ, zero, suc, ◌+◌, ◌-◌, ◌<◌}
use mathlib.Core.Path.{◌≡◌, refl, sym, ap, ap₂, ◌∙◌}
use mathlib.Core.Bool.{Bool, true, false, ◌&&◌}
use mathlib.Core.List.{List, [], ◌∷◌, ◌++◌, reverse, reverse_aux-eq}
use native.Mathlib.Omega.{arith}
use native.Mathlib.Numerals.{add-one}
use borrow.Author.Tests.{eq-eqb, ne_eqb, eqb-true, eqb-false}
use lib.ListN.{length, length-append}
use lib.Dec.{eqb}
use Rattle.model.specs.QueueTable as model
use Rattle.queue_table.specs.View.{up_to, down_from, queue_at, from_at, to_at, speed_at, levels_at, fixed_delay_at, best_effort_at, link_at, links_of}

-- Two tests of equality that hold together are one.
pub same_test : (a b c d : ℕ) → (a ≡ b → c ≡ d) → (c ≡ d → a ≡ b) → eqb a b ≡ eqb c d
same_test a b c d f g = go (eqb a b) refl
  where
    go : (t : Bool) → eqb a b ≡ t → eqb a b ≡ eqb c d
    go true e = e ∙ sym (eq-eqb c d (f (eqb-true a b e)))
    go false e = e ∙ sym (ne_eqb c d (λ h. eqb-false a b e (g h)))

module _ {A : Type 0} where
  pub length_up : (n : ℕ) (f : ℕ → A) → length (up_to n f) ≡ n
  unfolding up_to
  length_up zero f = refl
  length_up (suc n) f = length-append (up_to n f) (f n ∷ []) ∙ omega (arith, length_up n f)

  pub up_same : (n : ℕ) (f g : ℕ → A) → ((i : ℕ) → i < n → f i ≡ g i) → up_to n f ≡ up_to n g
  unfolding up_to
  up_same zero f g h = refl
  up_same (suc n) f g h = ap₂ (λ (l : List A) (a : A). l ++ (a ∷ [])) (up_same n f g (λ i lt. h i (omega arith))) (h n (omega arith))

  length-down : (n : ℕ) (f : ℕ → A) → length (down_from n f) ≡ n
  unfolding down_from
  length-down zero f = refl
  length-down (suc n) f = ap suc (length-down n f)

  pub down-same : (n : ℕ) (f g : ℕ → A) → ((i : ℕ) → i < n → f i ≡ g i) → down_from n f ≡ down_from n g
  unfolding down_from
  down-same zero f g h = refl
  down-same (suc n) f g h = ap₂ (λ (a : A) (l : List A). a ∷ l) (h n (omega arith)) (down-same n f g (λ i lt. h i (omega arith)))

  reverse-down : (n : ℕ) (f : ℕ → A) → reverse (down_from n f) ≡ up_to n f
  unfolding down_from up_to
  reverse-down zero f = refl
  reverse-down (suc n) f = reverse_aux-eq (down_from n f) (f n ∷ []) ∙ ap (λ (l : List A). l ++ (f n ∷ [])) (reverse-down n f)

module _ (table : List ℕ) where
  -- Once read, the newest link is the last.
  pub links-reversed : (n : ℕ) → reverse (links_of n table) ≡ up_to n (link_at table)
  unfolding links_of
  links-reversed n = reverse-down n (link_at table)

  links-length : (n : ℕ) → length (links_of n table) ≡ n
  unfolding links_of
  links-length n = length-down n (link_at table)

  pub links-none : (n : ℕ) → n ≡ 0 → links_of n table ≡ []
  unfolding links_of down_from
  links-none n e = rw e

  -- Of n links the newest is link n - 1, counted from 0.
  pub links-newest : (n : ℕ) → 0 < n → links_of n table ≡ link_at table (n - 1) ∷ links_of (n - 1) table
  unfolding links_of down_from
  links-newest zero pos = absurd (omega arith)
  links-newest (suc m) pos = let e : suc m - 1 ≡ m = omega arith in rw e

  levels-length : (i : ℕ) → length (link_at table i).levels ≡ levels_at table i
  unfolding link_at
  levels-length i = length_up (levels_at table i) (queue_at table i)

module _ (table : List ℕ) (n : ℕ) (r : model.Row) where
  pub begins_at : model.begins (links_of n table) r ≡ (eqb r.link (n + 1) && eqb r.level 1)
  unfolding model.begins
  begins_at = rw (links-length table n, add-one n)

  pub continues_none : n ≡ 0 → model.continues (links_of n table) r ≡ false
  unfolding model.continues
  continues_none e = rw (links-none table n e)

  pub continues_at : 0 < n → model.continues (links_of n table) r ≡ (eqb r.link n && eqb r.level (levels_at table (n - 1) + 1))
  unfolding model.continues
  continues_at pos =
      let e : suc (n - 1) ≡ n = omega arith in
      rw (links-newest table n pos, links-length table (n - 1), levels-length table (n - 1), e, add-one (levels_at table (n - 1)))

  pub same_none : n ≡ 0 → model.same_link (links_of n table) r ≡ false
  unfolding model.same_link
  same_none e = rw (links-none table n e)

  pub same_at : 0 < n
      → model.same_link (links_of n table) r
      ≡ (eqb r.from (from_at table (n - 1))
      && eqb r.to (to_at table (n - 1))
      && eqb r.speed (speed_at table (n - 1))
      && eqb r.fixed_delay (fixed_delay_at table (n - 1))
      && eqb r.best_effort (best_effort_at table (n - 1)))
  unfolding model.same_link link_at
  same_at pos = rw (links-newest table n pos)
