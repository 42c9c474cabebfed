-- The levels of a link, as they are or with the figures of one more flow at one of them: no sum over them is large. Which arrays are so limited.
-- Assumes nothing.
use Prim.Native.Nat.{ℕ, zero, suc, ◌+◌, ◌*◌, ◌/◌, ◌%◌, ◌^◌, ◌≤◌, ◌<◌}
use mathlib.Core.Path.{◌≡◌, refl, sym, ap₂, ◌∙◌}
use mathlib.Core.Bool.{Bool, true, false}
use mathlib.Core.List.{List, [], ◌∷◌, map}
use native.Mathlib.Omega.{arith}
use native.Mathlib.Nat.{div-add-mod, mod-lt}
use borrow.Author.Tests.{ltb-true, ltb-false}
use lib.Dec.{ltb}
use lib.ListN.{length, get_or, set, length-set, get_or-eq_default}
use Rattle.model.specs.Words.{All}
use Rattle.model.specs.Sizes.{links_most, levels_most, queues_most}
use Rattle.model.specs.Total.{total}
use Rattle.model.specs.Formula.{Aggregate}
use Rattle.model.specs.WithFlow.{together}
use Rattle.model.proofs.Laws.Formula.{AtMost}
use Rattle.model.proofs.Laws.Total.{total-le, largest-le}
use Rattle.model.proofs.Laws.All.{all_append}
use Rattle.queue_table.specs.View.{up_to, entry_at, link_in, level_in}
use Rattle.queue_table.proofs.ViewLaws.{length_up}
use Rattle.figures.specs.View.{own_numbers, figure_at, level_figures, levels_with, Summable, Below, LimitedShare, LimitedLevel, Limited}

module _ {A : Type 0} where
  set_all : (P : A → Type 0) (l : List A) (i : ℕ) (v : A) → All P l → P v → All P (set l i v)
  set_all P [] i v a h = tt
  set_all P (x ∷ l) zero v a h = (h, a.1)
  set_all P (x ∷ l) (suc i) v a h = (a.0, set_all P l i v a.1 h)

  up-all : (P : A → Type 0) (n : ℕ) (f : ℕ → A) → ((p : ℕ) → p < n → P (f p)) → All P (up_to n f)
  unfolding up_to
  up-all P zero f h = tt
  up-all P (suc n) f h = all_append P (up_to n f) (f n ∷ []) (up-all P n f (λ p lt. h p (omega arith))) (h n (omega arith), tt)

pub map-set : {A B : Type 0} (f : A → B) (l : List A) (i : ℕ) (a : A) → map f (set l i a) ≡ set (map f l) i (f a)
map-set f [] i a = refl
map-set f (x ∷ l) zero a = refl
map-set f (x ∷ l) (suc i) a = ap₂ (λ y m. y ∷ m) refl (map-set f l i a)

levels-summable : (levels : List Aggregate) → length levels ≡ levels_most → All (λ a. a.rate ≤ 20000000) levels → All (λ a. a.burst ≤ 2 ^ 33) levels
    → All (λ a. a.frame ≤ 1542) levels
    → Summable levels
levels-summable levels long rates bursts frames =
    let rate-sum : total (λ a. a.rate) levels ≤ levels_most * 20000000 = rw long at (total-le (λ a. a.rate) 20000000 levels rates) in
    let burst-sum : total (λ a. a.burst) levels ≤ levels_most * 2 ^ 33 = rw long at (total-le (λ a. a.burst) (2 ^ 33) levels bursts) in
    let frame = largest-le (λ a. a.frame) 1542 levels frames in
    (omega arith, omega arith)

-- The figures of a queue, with no more than a share counted in.
pub level-limited : (figures : List ℕ) → Limited figures → (e : ℕ) → e < queues_most → {share a : Aggregate} → LimitedShare share
    → AtMost a (together (figure_at figures e) share)
    → LimitedLevel a
unfolding together
level-limited figures limited e low small most = (
  omega (arith, small.0, most.rate, limited.rates e low),
  omega (arith, small.1, most.burst, limited.bursts e low),
  omega (arith, small.2, most.frame, limited.frames e low),
)

module _ (figures : List ℕ) (limited : Limited figures) (e : ℕ) (low : e < queues_most) (own : Aggregate) (small : LimitedLevel own) where
  each : (m : Aggregate → ℕ) (most : ℕ) → ((d : ℕ) → d < queues_most → m (figure_at figures d) ≤ most) → m own ≤ most
      → All (λ a. m a ≤ most) (levels_with figures e own)
  unfolding levels_with level_figures
  each m most exact there =
      set_all (λ a. m a ≤ most) (level_figures figures (link_in e)) (level_in e) own
      (up-all (λ a. m a ≤ most) levels_most (λ p. figure_at figures (entry_at (link_in e) p)) (λ p lt. exact (entry_at (link_in e) p) (omega (arith, div-add-mod e levels_most))))
      there

  long : length (levels_with figures e own) ≡ levels_most
  unfolding levels_with level_figures
  long = length-set (level_figures figures (link_in e)) (level_in e) own ∙ length_up levels_most (λ p. figure_at figures (entry_at (link_in e) p))

  pub summable : Summable (levels_with figures e own)
  summable =
      levels-summable (levels_with figures e own) long
      (each (λ a. a.rate) 20000000 (λ d lt. omega (arith, limited.rates d lt)) small.0)
      (each (λ a. a.burst) (2 ^ 33) (λ d lt. omega (arith, limited.bursts d lt)) small.1)
      (each (λ a. a.frame) 1542 (λ d lt. limited.frames d lt) small.2)

-- The levels as they are.
pub summable-alone : (figures : List ℕ) → Limited figures → (link : ℕ) → link < links_most → Summable (level_figures figures link)
unfolding level_figures
summable-alone figures limited link low =
    let level : ℕ → Aggregate = λ p. figure_at figures (entry_at link p) in
    levels-summable (up_to levels_most level) (length_up levels_most level)
    (up-all (λ a. a.rate ≤ 20000000) levels_most level (λ p lt. omega (arith, limited.rates (entry_at link p) (omega arith))))
    (up-all (λ a. a.burst ≤ 2 ^ 33) levels_most level (λ p lt. omega (arith, limited.bursts (entry_at link p) (omega arith))))
    (up-all (λ a. a.frame ≤ 1542) levels_most level (λ p lt. limited.frames (entry_at link p) (omega arith)))

-- The figures of one queue are small.
abbrev pub Small : Aggregate → Type 0
Small a = (a.rate ≤ 10000000) × (a.burst ≤ 2 ^ 32) × (a.frame ≤ 1542)

-- Every number of a limited array is small.
pub limited-below : (figures : List ℕ) → Limited figures → Below (2 ^ 62) figures
unfolding figure_at
limited-below figures b j = go (ltb j (length figures)) refl
  where
    third : (e r : ℕ) → own_numbers * e + r ≡ j → e < queues_most → r < own_numbers → get_or figures j 0 ≤ 2 ^ 62
    third e zero p lt low = let q : own_numbers * e ≡ j = omega arith in rw (sym q) (omega (arith, b.rates e lt))
    third e (suc zero) p lt low = rw (sym p) (omega (arith, b.bursts e lt))
    third e (suc (suc zero)) p lt low = rw (sym p) (omega (arith, b.frames e lt))
    third e (suc (suc (suc r))) p lt low = absurd (omega arith)

    go : (within : Bool) → ltb j (length figures) ≡ within → get_or figures j 0 ≤ 2 ^ 62
    go false e = omega (arith, get_or-eq_default figures 0 {n = j} (ltb-false j (length figures) e))
    go true e =
        third (j / own_numbers) (j % own_numbers) (omega (arith, div-add-mod j own_numbers)) (omega (arith, div-add-mod j own_numbers, b.long, ltb-true j (length figures) e)) (mod-lt j {m = 3} (omega arith))
