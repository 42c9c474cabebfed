-- The pieces of a text one after the other, and the columns of a flow's line. Assumes nothing.
use Prim.Native.Nat.{ℕ, ◌+◌, ◌-◌, ◌*◌, ◌≤◌, ◌<◌}
use mathlib.Core.Path.{◌≡◌, refl, sym, ap, ap₂, ◌∙◌}
use mathlib.Core.Bool.{Bool, true, false, cond}
use mathlib.Core.List.{List, [], ◌∷◌, ◌++◌, map, append_assoc}
use mathlib.Core.Option.{none, some}
use native.Mathlib.Omega.{arith}
use native.Mathlib.Numerals.{add-one}
use lib.ListN.{length, get_or, take, drop, set, length-append, length-drop, length-map, drop_of_length-le}
use lib.Seq.{take_at, drop-cons, drop-append-add, drop-drop}
use lib.Dec.{ltb}
use Rattle.std.specs.Prelude.{Result}
use borrow.Author.Tests.{ltb-false}
use borrow.Rule.Slice.PartMut.{put_mid}
use Rattle.model.specs.Words.{joined}
use Rattle.model.specs.Sizes.{head_columns, hop_columns, slot_count}
use Rattle.model.specs.Columns.{justified, written_at}
use Rattle.model.specs.Orders.{Hop, Head, registering, kind_number, flow_of}
use Rattle.model.specs.Reference.{Slot, held_flows}
use Rattle.model.specs.Consistent.{head_of}
use Rattle.model.specs.Handover.{head_text, hop_text, flow_columns, flow_line, handover_text, Writing, refused_writing, done_writing, writing}
use Rattle.model.proofs.Laws.Answers.{justified-length}
use Rattle.model.proofs.Laws.Handover.{head-long, path-long, line-long}
use Rattle.columns.proofs.PartLaws.{field_next, byte_next, text-put, Filling, filling-room, filling-put}
use Rattle.bit_words.specs.View.{is_set}
use Rattle.queue_table.specs.View.{hop_at}
use Rattle.flow_store.specs.View.{hops_at, head_at, flow_at, flow_in, slot_of, entries_in, Readable}
use Rattle.flow_store.specs.Laws.{slot_at, held-slot}
use Rattle.flow_store.proofs.ViewLaws.{entries-long}
use Rattle.causes.specs.declared.Cause.{Cause}
use Rattle.order_text.specs.View.{slot_text, line_at, text_in, bytes_of, WritesArrays, consistent, inconsistent}

module _ {A : Type 0} (text : A → List ℕ) where
  -- What is left before an element, and past the last.
  pub joined-next : (l : List A) (k : ℕ) (d : A) → k < length l → joined text (drop k l) ≡ text (get_or l k d) ++ joined text (drop (k + 1) l)
  unfolding joined
  joined-next l k d h = rw add-one (ap (joined text) (drop-cons l k d h))

  pub joined-past : (l : List A) (k : ℕ) → length l ≤ k → joined text (drop k l) ≡ []
  unfolding joined
  joined-past l k h = ap (joined text) (drop_of_length-le l h)

  pub joined-map : {B : Type 0} (f : B → A) (l : List B) → joined text (map f l) ≡ joined (λ x. text (f x)) l
  unfolding joined
  joined-map f [] = refl
  joined-map f (x ∷ l) = ap (λ (t : List ℕ). text (f x) ++ t) (joined-map f l)

-- A loop over a list that writes a piece for each element: the piece of element k goes to `at`, in the part that starts there.
module _ {A : Type 0} (text : A → List ℕ) (l : List A) (k : ℕ) (d : A) (more : k < length l) {whole area : List ℕ} {size at : ℕ}
    (now : Filling whole (joined text (drop k l)) area size at) where
  pub piece-room : at + length (text (get_or l k d)) ≤ length area
  piece-room = filling-room now (text (get_or l k d)) (joined text (drop (k + 1) l)) (joined-next text l k d more) (length (text (get_or l k d))) refl

  pub piece-next : (bytes : ℕ) → bytes ≡ length (text (get_or l k d)) → (area' : List ℕ)
      → area' ≡ put_mid at (length area - at) area (text (get_or l k d) ++ drop bytes (take (length area - at) (drop at area)))
      → Filling whole (joined text (drop (k + 1) l)) area' size (at + bytes)
  piece-next bytes long area' is = filling-put now (text (get_or l k d)) (joined text (drop (k + 1) l)) (joined-next text l k d more) bytes long area' is

-- The held flows, slot by slot.
pub slots-text : (l : List Slot) → joined slot_text l ≡ handover_text (held_flows l)
unfolding joined slot_text handover_text held_flows
slots-text [] = refl
slots-text (none ∷ l) = slots-text l
slots-text (some f ∷ l) = ap (λ (t : List ℕ). flow_line f ++ t) (slots-text l)

-- A part with a head's columns written one after the other.
pub head-written : (l : List ℕ) (h : Head)
    → written_at 39 41 h.hops (written_at 31 38 h.deadline (written_at 26 30 h.frame (written_at 18 25 h.burst (written_at 9 17 h.rate (written_at 3 8 h.number (written_at 1 2 (kind_number registering) l))))))
    ≡ head_text h ++ drop head_columns l
unfolding head_text
head-written l h =
    let kind = justified 2 (kind_number registering) in
    let number = kind ++ justified 6 h.number in
    let rate = number ++ justified 9 h.rate in
    let burst = rate ++ justified 8 h.burst in
    let frame = burst ++ justified 5 h.frame in
    let deadline = frame ++ justified 8 h.deadline in
    ap (λ (t : List ℕ). written_at 39 41 h.hops (written_at 31 38 h.deadline (written_at 26 30 h.frame (written_at 18 25 h.burst (written_at 9 17 h.rate (written_at 3 8 h.number t)))))) (field_next [] l 0 2 (kind_number registering) refl)
    ∙ ap (λ (t : List ℕ). written_at 39 41 h.hops (written_at 31 38 h.deadline (written_at 26 30 h.frame (written_at 18 25 h.burst (written_at 9 17 h.rate t))))) (field_next kind l 2 6 h.number (justified-length 2 (kind_number registering)))
    ∙ ap (λ (t : List ℕ). written_at 39 41 h.hops (written_at 31 38 h.deadline (written_at 26 30 h.frame (written_at 18 25 h.burst t)))) (field_next number l 8 9 h.rate (simp (length-append, justified-length)))
    ∙ ap (λ (t : List ℕ). written_at 39 41 h.hops (written_at 31 38 h.deadline (written_at 26 30 h.frame t))) (field_next rate l 17 8 h.burst (simp (length-append, justified-length)))
    ∙ ap (λ (t : List ℕ). written_at 39 41 h.hops (written_at 31 38 h.deadline t)) (field_next burst l 25 5 h.frame (simp (length-append, justified-length)))
    ∙ ap (λ (t : List ℕ). written_at 39 41 h.hops t) (field_next frame l 30 8 h.deadline (simp (length-append, justified-length)))
    ∙ field_next deadline l 38 3 h.hops (simp (length-append, justified-length))
    ∙ simp append_assoc

-- A hop's.
pub hop-written : (l : List ℕ) (h : Hop) → written_at 5 6 h.level (written_at 1 4 h.link l) ≡ hop_text h ++ drop hop_columns l
unfolding hop_text
hop-written l h =
    let link = justified 4 h.link in
    ap (written_at 5 6 h.level) (field_next [] l 0 4 h.link refl) ∙ field_next link l 4 2 h.level (justified-length 4 h.link)

pub entries-size : (entries : List ℕ) → length (joined hop_text (map hop_at entries)) ≡ hop_columns * length entries
entries-size entries = path-long (map hop_at entries) ∙ ap (λ n. hop_columns * n) (length-map entries hop_at)

-- A head, its path behind it and LF are the flow's line.
module _ (h : Head) (entries : List ℕ) (hops : h.hops ≡ length entries) where
  abbrev path : List Hop
  path = map hop_at entries

  abbrev size : ℕ
  size = hop_columns * length entries

  abbrev end : ℕ
  end = head_columns + size

  head-same : head_text (head_of (flow_of h path)) ≡ head_text h
  unfolding head_of flow_of
  head-same =
      ap (λ n. head_text (record { number = h.number; rate = h.rate; burst = h.burst; frame = h.frame; deadline = h.deadline; hops = n })) (length-map entries hop_at ∙ sym hops)

  pub line-written : (l part : List ℕ) → part ≡ head_text h ++ drop head_columns l → head_columns + 1 + size ≤ length l
      → set (put_mid head_columns (length part - head_columns) part (joined hop_text path ++ drop size (take (length part - head_columns) (drop head_columns part)))) end 10
      ≡ flow_line (flow_of h path) ++ drop (end + 1) l
  unfolding flow_line flow_columns flow_of
  line-written l part is room =
      let head = head_text h in
      let columns = joined hop_text path in
      let long : length part ≡ length l = ap length is ∙ length-append head (drop head_columns l) ∙ simp (head-long h, length-drop) (omega (arith, room)) in
      let front : take head_columns part ≡ head = ap (take head_columns) is ∙ take_at head (drop head_columns l) head_columns (head-long h) in
      let rest : drop end part ≡ drop end l =
      ap₂ (λ (k : ℕ) (t : List ℕ). drop (k + size) t) (sym (head-long h)) is
      ∙ drop-append-add head (drop head_columns l) size
      ∙ drop-drop size head_columns l in
      ap (λ (t : List ℕ). set t end 10)
      (text-put part columns head_columns size (omega (arith, room, long))
      ∙ ap₂ (λ (a b : List ℕ). a ++ (columns ++ b)) front rest
      ∙ sym (append_assoc head columns (drop end l)))
      ∙ byte_next (head ++ columns) l end 10 (length-append head columns ∙ ap₂ (λ (a b : ℕ). a + b) (head-long h) (entries-size entries)) (omega (arith, room))
      ∙ sym (append_assoc (head ++ columns) (10 ∷ []) (drop (end + 1) l))
      ∙ ap (λ (t : List ℕ). ((t ++ columns) ++ (10 ∷ [])) ++ drop (end + 1) l) (sym head-same)

  pub line-size : length (flow_line (flow_of h path)) ≡ end + 1
  unfolding flow_of
  line-size = line-long (flow_of h path) ∙ omega (arith, length-map entries hop_at)

-- What stands at a slot.
module _ (bits store : List ℕ) (stored : Readable bits store) (k : ℕ) (inside : k < slot_count) where
  pub free-text : is_set bits k ≡ false → line_at bits store k ≡ []
  unfolding slot_text slot_of
  free-text free = ap slot_text (slot_at bits store k inside ∙ ap (λ (b : Bool). slot_of b (flow_in store k)) free)

  pub held-text : is_set bits k ≡ true → line_at bits store k ≡ flow_line (flow_of (head_at store k) (map hop_at (entries_in store k)))
  unfolding slot_text flow_at flow_of
  held-text held = ap slot_text (held-slot bits store k inside held)

  -- As many hop entries as its slot counts.
  pub named-long : is_set bits k ≡ true → length (entries_in store k) ≡ hops_at store k
  named-long held = entries-long store stored.store_long k (stored.inside k inside held)

  pub held-size : is_set bits k ≡ true → length (line_at bits store k) ≡ head_columns + 1 + hop_columns * hops_at store k
  unfolding flow_of
  held-size held =
      ap length (held-text held)
      ∙ line-long (flow_of (head_at store k) (map hop_at (entries_in store k)))
      ∙ ap (λ n. head_columns + 1 + hop_columns * n) (length-map (entries_in store k) hop_at ∙ named-long held)

-- No more bytes are filled than the area has.
writing-within : (text area : List ℕ) → (writing text area).bytes ≤ length area
unfolding writing refused_writing done_writing
writing-within text area = go (ltb (length area) (length text)) refl
  where
    go : (b : Bool) → ltb (length area) (length text) ≡ b → (cond b (refused_writing 43 area) (done_writing text area)).bytes ≤ length area
    go true e = omega arith
    go false e = ltb-false _ _ e

pub bytes-within : {table bits store figures area area' : List ℕ} {r : Result ℕ Cause} → WritesArrays table bits store figures area area' r → bytes_of r ≤ length area
unfolding refused_writing
bytes-within {bits = bits} {store} {area = area} (consistent kept e) =
    omega (arith, ap (λ (m : Writing). m.bytes) e, writing-within (text_in bits store) area)
bytes-within (inconsistent spoilt e) = omega (arith, ap (λ (m : Writing). m.bytes) e)
