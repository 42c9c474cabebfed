-- The hops of the array that a path is read into, and those read so far before what the rest of the line says: one hop more, a malformed one, and the end.
-- Assumes nothing.
use Prim.Native.Nat.{ℕ, suc, ◌+◌, ◌-◌, ◌*◌, ◌<◌}
use mathlib.Core.Path.{◌≡◌, refl, sym, ap, ◌∙◌}
use mathlib.Core.List.{List, [], ◌∷◌, ◌++◌, append-nil}
use mathlib.Core.Option.{Option, none, some}
use native.Mathlib.Omega.{arith}
use native.Mathlib.Nat.{sub-zero}
use native.Mathlib.Numerals.{add-one}
use lib.ListN.{length, get_or, take, drop, set, length-map, length-drop}
use Rattle.std.proofs.lemmas.List.{map-set, get_or-map}
use lib.Seq.{append_snoc, take-suc-set, take_all, drop-drop}
use Rattle.model.specs.Words.{and_then}
use Rattle.model.specs.Sizes.{head_columns, hop_columns}
use Rattle.model.specs.Orders as model
use Rattle.model.specs.Orders.{hop_field, hop_fields}
use Rattle.queue_table.specs.declared.access.Hop.{Hop}
use Rattle.orders.specs.View.{hop_named, no_hop, hops_in, hop_in}

-- The hops `before`, and then those that are read, if they can be.
abbrev joined : List model.Hop → Option (List model.Hop) → Option (List model.Hop)
joined before hops = and_then hops λ hs. some (before ++ hs)

joined-none : (o : Option (List model.Hop)) → joined [] o ≡ o
joined-none none = refl
joined-none (some hs) = refl

more : (before : List model.Hop) (h : model.Hop) (o : Option (List model.Hop)) → joined before (and_then o λ hs. some (h ∷ hs)) ≡ joined (before ++ (h ∷ [])) o
more before h none = refl
more before h (some hs) = ap some (sym (append_snoc before h hs))

joined-more : (before : List model.Hop) (h : model.Hop) (n : ℕ) (bytes : List ℕ) → hop_field bytes ≡ some h
    → joined before (hop_fields (suc n) bytes) ≡ joined (before ++ (h ∷ [])) (hop_fields n (drop hop_columns bytes))
unfolding hop_fields
joined-more before h n bytes e = simp e (more before h (hop_fields n (drop hop_columns bytes)))

joined-malformed : (before : List model.Hop) (n : ℕ) (bytes : List ℕ) → hop_field bytes ≡ none → joined before (hop_fields (suc n) bytes) ≡ none
unfolding hop_fields
joined-malformed before n bytes e = simp e

joined-all : (before : List model.Hop) (bytes : List ℕ) → joined before (hop_fields 0 bytes) ≡ some before
unfolding hop_fields
joined-all before bytes = ap some (append-nil before)

pub hops-long : (hops : List Hop) → length (hops_in hops) ≡ length hops
hops-long hops = length-map hops hop_named

pub hops-at : (hops : List Hop) (i : ℕ) (d : model.Hop) → i < length hops → get_or (hops_in hops) i d ≡ hop_in hops i
hops-at hops i d h = get_or-map hop_named hops i no_hop d h

-- One hop more is in the array.
hops-next : (hops : List Hop) (i : ℕ) (hop : Hop) → i < length hops
    → take (suc i) (hops_in (set hops i hop)) ≡ take i (hops_in hops) ++ (hop_named hop ∷ [])
hops-next hops i hop h =
    ap (take (suc i)) (map-set hop_named hops i hop)
    ∙ take-suc-set (hops_in hops) i (hop_named hop) (omega (arith, hops-long hops))

-- The columns before hop i.
abbrev pub start : ℕ → ℕ
start i = head_columns + hop_columns * i

next-hop : (i : ℕ) (line : List ℕ) → drop hop_columns (drop (start i) line) ≡ drop (start (suc i)) line
next-hop i line = let e : start i + hop_columns ≡ start (suc i) = omega arith in drop-drop hop_columns (start i) line ∙ ap (λ (n : ℕ). drop n line) e

-- The loop's steps: `i` hops of `n` are read into the array.
module _ (line : List ℕ) (hops : List Hop) (n i : ℕ) where
  unfoldable pub read-so-far : Option (List model.Hop)
  read-so-far = joined (take i (hops_in hops)) (hop_fields (n - i) (drop (start i) line))

pub path-start : (line : List ℕ) (hops : List Hop) (n : ℕ) → read-so-far line hops n 0 ≡ hop_fields n (drop head_columns line)
unfolding read-so-far
path-start line hops n = simp sub-zero (joined-none (hop_fields n (drop head_columns line)))

pub path-step : (line : List ℕ) (hops : List Hop) (n i : ℕ) (hop : Hop) → i < length hops → i < n
    → hop_field (drop (start i) line) ≡ some (hop_named hop)
    → read-so-far line (set hops i hop) n (i + 1) ≡ read-so-far line hops n i
unfolding read-so-far
path-step line hops n i hop room more_left e =
    let left : n - i ≡ suc (n - suc i) = omega arith in
    let before = take i (hops_in hops) in
    let here = hop_named hop in
    rw (add-one i, left)
    (sym
    (joined-more before here (n - suc i) (drop (start i) line) e
    ∙ ap (λ (l : List ℕ). joined (before ++ (here ∷ [])) (hop_fields (n - suc i) l)) (next-hop i line)
    ∙ ap (λ (p : List model.Hop). joined p (hop_fields (n - suc i) (drop (start (suc i)) line))) (sym (hops-next hops i hop room))))

pub path-malformed : (line : List ℕ) (hops : List Hop) (n i : ℕ) → i < n → hop_field (drop (start i) line) ≡ none → read-so-far line hops n i ≡ none
unfolding read-so-far
path-malformed line hops n i more_left e =
    let left : n - i ≡ suc (n - suc i) = omega arith in
    rw left (joined-malformed (take i (hops_in hops)) (n - suc i) (drop (start i) line) e)

pub path-end : (line : List ℕ) (hops : List Hop) (n i : ℕ) → i ≡ n → read-so-far line hops n i ≡ some (take n (hops_in hops))
unfolding read-so-far
path-end line hops n i e =
    let none_left : n - n ≡ 0 = omega arith in
    rw (e, none_left) (joined-all (take n (hops_in hops)) (drop (start n) line))

-- A part up to the end is what is left.
pub rest : (line : List ℕ) (at : ℕ) → take (length line - at) (drop at line) ≡ drop at line
rest line at = take_all (length line - at) (drop at line) (simp length-drop (omega arith))

pub ruleset path_laws = (rest, path-start, path-step, path-malformed, path-end)
