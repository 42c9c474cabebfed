-- Numbers moved within the pool: where each stands afterwards; the pool in the whole array.
-- Assumes nothing.
use Rattle.std.proofs.Common.{◌≡◌, ℕ, ◌+◌, ◌-◌, ◌<◌, ◌≤◌, List, ◌++◌, length, get_or, take, drop, sym, ap, ◌∙◌, append_assoc, append-nil, arith, length-append, length-drop, drop_of_length-le, length-take-le, take_all, get_or-take, take-take, take_at, drop_at}
use lib.ListN.{get_or-append}
use lib.Seq.{take-length, paste, drop-paste, length-paste}
use borrow.Rule.Slice.PartMut.{put_mid}
use Rattle.flow_store.specs.View.{slot_numbers, store_numbers, pool_of, path_inserted, path_removed}

module _ (d : List ℕ) (at : ℕ) (s : List ℕ) (n : ℕ) (inside : at ≤ length d) where
  -- Before the copied numbers, and these.
  pub paste-front : take at (paste d at s n) ≡ take at d
  paste-front =
      ap (take at) (append_assoc (take at d) (take n s) (drop (at + n) d))
      ∙ take_at (take at d) (take n s ++ drop (at + n) d) at (length-take-le at d inside)

  pub paste-copied : n ≤ length s → take n (drop at (paste d at s n)) ≡ take n s
  paste-copied long =
      ap (λ (l : List ℕ). take n (drop at l)) (append_assoc (take at d) (take n s) (drop (at + n) d))
      ∙ ap (take n) (drop_at (take at d) (take n s ++ drop (at + n) d) at (length-take-le at d inside))
      ∙ take_at (take n s) (drop (at + n) d) n (length-take-le n s long)

module _ (start end : ℕ) (entries pool : List ℕ) (order : start ≤ end) (room : end + length entries ≤ length pool) where
  moved : List ℕ
  moved = paste pool (start + length entries) (drop start pool) (end - start)

  moved-long : length moved ≡ length pool
  unfolding moved
  moved-long = length-paste pool (start + length entries) (drop start pool) (end - start) (omega arith) (omega (arith, length-drop start pool))

  pub inserted-long : length (path_inserted start end entries pool) ≡ length pool
  unfolding path_inserted moved
  inserted-long = length-paste moved start entries (length entries) (omega (arith, moved-long)) (omega arith) ∙ moved-long

  -- The entries before the path, the path, and those that were moved.
  pub inserted-front : take start (path_inserted start end entries pool) ≡ take start pool
  unfolding path_inserted moved
  inserted-front =
      let n = length entries in
      paste-front moved start entries n (omega (arith, moved-long))
      ∙ sym (take-take start (start + n) moved (omega arith))
      ∙ ap (take start) (paste-front pool (start + n) (drop start pool) (end - start) (omega arith))
      ∙ take-take start (start + n) pool (omega arith)

  pub inserted-path : take (length entries) (drop start (path_inserted start end entries pool)) ≡ entries
  unfolding path_inserted moved
  inserted-path =
      paste-copied moved start entries (length entries) (omega (arith, moved-long)) (omega arith) ∙ take-length entries

  pub inserted-rest : take (end - start) (drop (start + length entries) (path_inserted start end entries pool)) ≡ take (end - start) (drop start pool)
  unfolding path_inserted moved
  inserted-rest =
      let n = length entries in
      ap (take (end - start)) (drop-paste moved start entries n (omega (arith, moved-long)) (omega arith))
      ∙ paste-copied pool (start + n) (drop start pool) (end - start) (omega arith) (omega (arith, length-drop start pool))

module _ (start end by : ℕ) (pool : List ℕ) (order : start + by ≤ end) (inside : end ≤ length pool) where
  pub removed-long : length (path_removed start end by pool) ≡ length pool
  unfolding path_removed
  removed-long = length-paste pool start (drop (start + by) pool) (end - by - start) (omega arith) (omega (arith, length-drop (start + by) pool))

  -- The entries before the path, and those that were moved.
  pub removed-front : take start (path_removed start end by pool) ≡ take start pool
  unfolding path_removed
  removed-front = paste-front pool start (drop (start + by) pool) (end - by - start) (omega arith)

  pub removed-rest : take (end - by - start) (drop start (path_removed start end by pool)) ≡ take (end - by - start) (drop (start + by) pool)
  unfolding path_removed
  removed-rest = paste-copied pool start (drop (start + by) pool) (end - by - start) (omega arith) (omega (arith, length-drop (start + by) pool))

-- The array with another pool: the slots' numbers are as they were.
abbrev pub pooled : (store pool : List ℕ) → List ℕ
pooled store pool = put_mid slot_numbers (length store - slot_numbers) store pool

-- The pool as it is lent.
pub lent-pool : (store : List ℕ) → take (length store - slot_numbers) (drop slot_numbers store) ≡ pool_of store
lent-pool store = take_all (length store - slot_numbers) (drop slot_numbers store) (omega (arith, length-drop slot_numbers store))

module _ (store pool : List ℕ) (long : length store ≡ store_numbers) (same : length pool ≡ length (pool_of store)) where
  whole : pooled store pool ≡ take slot_numbers store ++ pool
  whole =
      ap (λ (l : List ℕ). take slot_numbers store ++ (pool ++ l)) (drop_of_length-le (drop slot_numbers store) {i = length store - slot_numbers} (omega (arith, length-drop slot_numbers store)))
      ∙ ap (λ (l : List ℕ). take slot_numbers store ++ l) (append-nil pool)

  front : length (take slot_numbers store) ≡ slot_numbers
  front = length-take-le slot_numbers store (omega (arith, long))

  pub pooled-long : length (pooled store pool) ≡ store_numbers
  pooled-long = ap length whole ∙ length-append (take slot_numbers store) pool ∙ omega (arith, front, same, length-drop slot_numbers store, long)

  pub pooled-behind : pool_of (pooled store pool) ≡ pool
  pooled-behind = ap pool_of whole ∙ drop_at (take slot_numbers store) pool slot_numbers front

  pub pooled-number : (j : ℕ) → j < slot_numbers → get_or (pooled store pool) j 0 ≡ get_or store j 0
  pooled-number j h =
      ap (λ (l : List ℕ). get_or l j 0) whole
      ∙ get_or-append (take slot_numbers store) pool 0 j (omega (arith, front))
      ∙ get_or-take slot_numbers store j 0 h
