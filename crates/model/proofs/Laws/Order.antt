-- What is read from a line: the numbers of a registration, a release or a change are in their ranges, and anything else is 10 or 11.
-- Along the reading, test by test. Assumes nothing.
use Rattle.std.specs.Prelude.{ℕ, zero, suc, ◌+◌, ◌*◌, ◌≡◌, Bool, cond, ◌⊎◌, List, [], ◌∷◌, length, drop}
use Rattle.std.proofs.Math.Path.{refl}
use Rattle.std.proofs.Common.{ap, sym, ◌∙◌}
use Rattle.std.proofs.Math.Bool.{true, false}
use Rattle.std.proofs.Math.Logic.{inl, inr}
use Rattle.std.proofs.Math.Option.{Option, none, some, none-ne-some, some-injective}
use Rattle.std.proofs.Math.Dec.{eqb}
use borrow.Author.Tests.{eqb-true}
use Rattle.model.specs.Sizes.{head_columns, hop_columns}
use Rattle.model.specs.Columns.{Line, ended, unended, lines, field_at}
use Rattle.model.specs.Orders.{Hop, Change, Order, register, release, change, rejected, Head, head_fields, hop_field, hop_fields, path_fields, number_in_range, hops_in_range, head_in_range, flow_of, with_path, registration, registration_of, release_of, release_line, change_fields, change_in_range, change_of, change_line, registering, releasing, changing, kind_number, kind_of_number, kind_order, order_of_kind, read_order, order_line}
use Rattle.model.specs.Reference.{Call, line_of_kind, only_line, call_order}
use Rattle.model.specs.Consistent.{head_of, flow_in_range}
use Rattle.model.proofs.Laws.Test.{both-and, and-then}

-- What a line of this kind can say.
abbrev pub Readable : (kind : ℕ) → Order → Type 0
Readable kind (register f) = (kind ≡ kind_number registering) × (flow_in_range f ≡ true)
Readable kind (release n) = (kind ≡ kind_number releasing) × (number_in_range n ≡ true)
Readable kind (change c) = (kind ≡ kind_number changing) × (change_in_range c ≡ true)
Readable kind (rejected code) = (code ≡ 10) ⊎ (code ≡ 11)

either : (kind : ℕ) (b : Bool) (x y : Order) → (b ≡ true → Readable kind x) → Readable kind y → Readable kind (cond b x y)
either kind true x y h k = h refl
either kind false x y h k = k

hops-counted : (n : ℕ) (bytes : List ℕ) (path : List Hop) → hop_fields n bytes ≡ some path → length path ≡ n
unfolding hop_fields
hops-counted zero bytes path e = ap length (sym (some-injective _ _ e))
hops-counted (suc n) bytes path e =
    let (hop, p₁, e₁) = and-then (hop_field bytes) _ e in
    let (hops, p₂, e₂) = and-then (hop_fields n (drop 6 bytes)) _ e₁ in
    ap length (sym (some-injective _ _ e₂)) ∙ ap suc (hops-counted n (drop 6 bytes) hops p₂)

path-counted : (hops : ℕ) (line : List ℕ) (path : List Hop) → path_fields hops line ≡ some path → length path ≡ hops
unfolding path_fields
path-counted hops line path = go (eqb (length line) (head_columns + hop_columns * hops))
  where
    go : (b : Bool) → cond b (hop_fields hops (drop head_columns line)) none ≡ some path → length path ≡ hops
    go true e = hops-counted hops (drop head_columns line) path e
    go false e = absurd (none-ne-some _ e)

module _ (kind : ℕ) (line : List ℕ) where
  with-path : (h : Head) (o : Option (List Hop)) → kind ≡ kind_number registering → hops_in_range h.hops ≡ true → path_fields h.hops line ≡ o
      → Readable kind (with_path h o)
  unfolding with_path flow_in_range head_of flow_of head_in_range
  with-path h none one r e = inl refl
  with-path h (some path) one r e =
      either kind (head_in_range h) _ _ (λ q. (one, both-and q (rw (path-counted h.hops line path e) r))) (inr refl)

  registration-readable : (o : Option Head) → kind ≡ kind_number registering → Readable kind (registration_of line o)
  unfolding registration_of
  registration-readable none one = inl refl
  registration-readable (some h) one =
      either kind (hops_in_range h.hops) _ _ (λ r. with-path h (path_fields h.hops line) one r refl) (inr refl)

  release-readable : (o : Option ℕ) → kind ≡ kind_number releasing → Readable kind (release_of o)
  unfolding release_of
  release-readable none two = inl refl
  release-readable (some n) two = either kind (number_in_range n) _ _ (λ r. (two, r)) (inr refl)

  change-readable : (o : Option Change) → kind ≡ kind_number changing → Readable kind (change_of o)
  unfolding change_of
  change-readable none three = inl refl
  change-readable (some c) three = either kind (change_in_range c) _ _ (λ r. (three, r)) (inr refl)

  kind-readable : Readable kind (order_of_kind line (some kind))
  unfolding order_of_kind kind_order kind_of_number registration release_line change_line
  kind-readable = go (eqb kind (kind_number registering)) (eqb kind (kind_number releasing)) (eqb kind (kind_number changing)) refl refl refl
    where
      go : (a b d : Bool) → eqb kind (kind_number registering) ≡ a → eqb kind (kind_number releasing) ≡ b → eqb kind (kind_number changing) ≡ d
          → Readable kind (kind_order line (cond a (some registering) (cond b (some releasing) (cond d (some changing) none))))
      go true b d one two three = registration-readable (head_fields line) (eqb-true _ _ one)
      go false true d one two three = either kind (eqb (length line) 8) _ _ (λ e. release-readable (field_at 3 8 line) (eqb-true _ _ two)) (inl refl)
      go false false true one two three = either kind (eqb (length line) 25) _ _ (λ e. change-readable (change_fields line) (eqb-true _ _ three)) (inl refl)
      go false false false one two three = inr refl

  own-kind : (o : Option ℕ) → field_at 1 2 line ≡ o → Readable kind (line_of_kind kind line o)
  unfolding line_of_kind read_order
  own-kind none e = inl refl
  own-kind (some n) e =
      either kind (eqb n kind) _ _ (λ q. rw (e, eqb-true n kind q) kind-readable) (inr refl)

only-line : (kind : ℕ) (l : List Line) → Readable kind (only_line kind l)
unfolding only_line
only-line kind [] = inl refl
only-line kind (unended ∷ []) = inl refl
only-line kind (ended line ∷ []) = own-kind kind line (field_at 1 2 line) refl
only-line kind (first ∷ second ∷ more) = inl refl

-- A call gives an order of its own kind.
pub call-readable : (c : Call) → Readable (kind_number c.kind) (call_order c)
unfolding call_order
call-readable c = only-line (kind_number c.kind) (lines c.bytes)

-- The numbers of a registration or a change are in their ranges.
abbrev pub Ranged : Order → Type 0
Ranged (register f) = flow_in_range f ≡ true
Ranged (release n) = Unit {0}
Ranged (change c) = change_in_range c ≡ true
Ranged (rejected code) = Unit {0}

pub ranged : (kind : ℕ) (o : Order) → Readable kind o → Ranged o
ranged kind (register f) r = r.1
ranged kind (release n) r = tt
ranged kind (change c) r = r.1
ranged kind (rejected code) r = tt

pub call-ranged : (kind : ℕ) (l : List Line) → Ranged (only_line kind l)
call-ranged kind l = ranged kind (only_line kind l) (only-line kind l)

-- A line of a text gives an order of its own kind, or 10 or 11.
order-readable : (line : List ℕ) → (kind : ℕ) × Readable kind (read_order line)
unfolding read_order order_of_kind
order-readable line = go (field_at 1 2 line)
  where
    go : (o : Option ℕ) → (kind : ℕ) × Readable kind (order_of_kind line o)
    go none = (0, inl refl)
    go (some kind) = (kind, kind-readable kind line)

pub line-readable : (l : Line) → (kind : ℕ) × Readable kind (order_line l)
unfolding order_line
line-readable unended = (0, inl refl)
line-readable (ended line) = order-readable line

pub line-ranged : (line : List ℕ) → Ranged (read_order line)
line-ranged line = let (kind, r) = order-readable line in ranged kind (read_order line) r
