-- Links and queues of the model's table, found in the array by their numbers.
-- Assumes nothing.
use Prim.Native.Nat.{ℕ, zero, suc, ◌+◌, ◌≤◌, ◌<◌}
use mathlib.Core.Path.{◌≡◌, refl, sym, ap, ◌∙◌}
use mathlib.Core.List.{List, [], ◌∷◌, ◌++◌}
use mathlib.Core.Option.{none, some}
use native.Mathlib.Omega.{arith}
use native.Mathlib.Numerals.{add-one}
use native.Mathlib.Decide.{dec_lt}
use lib.ListN.{length, get_elem?}
use Rattle.model.specs.Words.{nth}
use Rattle.model.specs.Aggregates as model-lookup
use Rattle.queue_table.specs.View.{up_to, queue_at, link_count, levels_at, link_at, table_of}
use Rattle.queue_table.proofs.ViewLaws.{length_up}

module _ {A : Type 0} where
  front : (l r : List A) (i : ℕ) → i < length l → get_elem? (l ++ r) i ≡ get_elem? l i
  front [] r i h = absurd (omega arith)
  front (x ∷ l) r zero h = refl
  front (x ∷ l) r (suc i) h = front l r i (omega arith)

  last : (l : List A) (x : A) → get_elem? (l ++ (x ∷ [])) (length l) ≡ some x
  last [] x = refl
  last (y ∷ l) x = last l x

  beyond : (l : List A) (i : ℕ) → length l ≤ i → get_elem? l i ≡ none
  beyond [] i h = refl
  beyond (x ∷ l) zero h = absurd (omega arith)
  beyond (x ∷ l) (suc i) h = beyond l i (omega arith)

  snoc : (l : List A) (x : A) (i n : ℕ) (f : ℕ → A) → length l ≡ n → x ≡ f n → (i < n → get_elem? l i ≡ some (f i)) → i < suc n → Dec (i < n)
      → get_elem? (l ++ (x ∷ [])) i ≡ some (f i)
  snoc l x i n f long e before h (yes lt) = front l (x ∷ []) i (omega arith) ∙ before lt
  snoc l x i n f long e before h (no ge) =
      let same : i ≡ length l = omega arith in
      rw same (last l x ∙ ap some (e ∙ ap f (sym long)))

  up_at : (n : ℕ) (f : ℕ → A) (i : ℕ) → i < n → get_elem? (up_to n f) i ≡ some (f i)
  unfolding up_to
  up_at zero f i h = absurd (omega arith)
  up_at (suc n) f i h = snoc (up_to n f) (f n) i n f (length_up n f) refl (up_at n f i) h (dec_lt i n)

  -- The element with number i + 1 of the values up to n, and none past them.
  up-nth : (n : ℕ) (f : ℕ → A) (i : ℕ) → i < n → nth (up_to n f) (i + 1) ≡ some (f i)
  unfolding nth
  up-nth n f i h = rw (add-one i) (up_at n f i h)

  up-past : (n : ℕ) (f : ℕ → A) (i : ℕ) → n ≤ i → nth (up_to n f) (i + 1) ≡ none
  unfolding nth
  up-past n f i h = rw (add-one i) (beyond (up_to n f) i (omega (arith, length_up n f)))

module _ (table : List ℕ) where
  pub link-found : (i : ℕ) → i < link_count table → model-lookup.link_at (table_of table) (i + 1) ≡ some (link_at table i)
  unfolding model-lookup.link_at table_of
  link-found i h = up-nth (link_count table) (link_at table) i h

  pub link-missing : (i : ℕ) → link_count table ≤ i → model-lookup.link_at (table_of table) (i + 1) ≡ none
  unfolding model-lookup.link_at table_of
  link-missing i h = up-past (link_count table) (link_at table) i h

  -- Link i + 1, level p + 1.
  pub queue-found : (i p : ℕ) → i < link_count table → p < levels_at table i
      → model-lookup.queue_at (table_of table) (record { link = i + 1; level = p + 1 }) ≡ some (queue_at table i p)
  unfolding model-lookup.queue_at link_at
  queue-found i p h k = simp (link-found i h) (up-nth (levels_at table i) (queue_at table i) p k)

  pub queue-no-link : (i level : ℕ) → link_count table ≤ i → model-lookup.queue_at (table_of table) (record { link = i + 1; level = level }) ≡ none
  unfolding model-lookup.queue_at
  queue-no-link i level h = simp (link-missing i h)

  pub queue-no-level : (i p : ℕ) → i < link_count table → levels_at table i ≤ p
      → model-lookup.queue_at (table_of table) (record { link = i + 1; level = p + 1 }) ≡ none
  unfolding model-lookup.queue_at link_at
  queue-no-level i p h k = simp (link-found i h) (up-past (levels_at table i) (queue_at table i) p k)

  -- Neither a link nor a level has number 0.
  pub queue-link-zero : (level : ℕ) → model-lookup.queue_at (table_of table) (record { link = 0; level = level }) ≡ none
  unfolding model-lookup.queue_at model-lookup.link_at nth
  queue-link-zero level = refl

  pub queue-level-zero : (i : ℕ) → i < link_count table → model-lookup.queue_at (table_of table) (record { link = i + 1; level = 0 }) ≡ none
  unfolding model-lookup.queue_at nth
  queue-level-zero i h = simp (link-found i h)
