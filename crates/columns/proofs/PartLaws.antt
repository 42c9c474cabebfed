-- What is written at a position, seen in the whole: a part lent on, fields and texts one after the other. Assumes nothing.
use Prim.Native.Nat.{ℕ, ◌+◌, ◌-◌, ◌≤◌, ◌<◌}
use mathlib.Core.Path.{◌≡◌, ◌∙◌, refl, sym, ap, ap₂, subst}
use mathlib.Core.List.{List, [], ◌∷◌, ◌++◌, append_assoc, append-nil}
use native.Mathlib.Omega.{arith}
use lib.ListN.{length, take, drop, set, length-append, length-take, length-drop, take-append-drop, drop_of_length-le}
use lib.Seq.{length-take-le, take_all, take_at, set_at, drop-append-add, drop-drop}
use borrow.Rule.Slice.PartMut.{put_mid}
use Rattle.model.specs.Columns.{justified, written_at}
use Rattle.model.proofs.Laws.Columns.{next}

-- A part up to the end, written from its start, in the whole.
pub part-written : (l : List ℕ) (s last : ℕ) (written : List ℕ) → s ≤ last → last ≤ length l
    → put_mid s (length l - s) l (written ++ drop (last - s) (take (length l - s) (drop s l))) ≡ take s l ++ (written ++ drop last l)
part-written l s last written low high =
    let to : s + (last - s) ≡ last = omega arith in
    let rest : drop (last - s) (take (length l - s) (drop s l)) ≡ drop last l =
    ap (drop (last - s)) (take_all (length l - s) (drop s l) (simp length-drop (omega arith))) ∙ drop-drop (last - s) s l ∙ ap (λ (n : ℕ). drop n l) to in
    let end : length (drop s l) ≤ length l - s = simp length-drop (omega arith) in
    ap₂ (λ (a b : List ℕ). take s l ++ ((written ++ a) ++ b)) rest (drop_of_length-le (drop s l) end)
    ∙ ap (λ (t : List ℕ). take s l ++ t) (append-nil (written ++ drop last l))

-- A field more, after columns already written; what stands after it stays.
pub field_next : (done l : List ℕ) (s w n : ℕ) → length done ≡ s → written_at (s + 1) (s + w) n (done ++ drop s l) ≡ (done ++ justified w n) ++ drop (s + w) l
unfolding written_at
field_next done l s w n long =
    let before : s + 1 - 1 ≡ s = omega arith in
    let width : s + w - s ≡ w = omega arith in
    let rest : drop (s + w) (done ++ drop s l) ≡ drop (s + w) l =
    ap (λ (k : ℕ). drop (k + w) (done ++ drop s l)) (sym long) ∙ drop-append-add done (drop s l) w ∙ drop-drop w s l in
    rw (before, width) (ap₂ (λ (a b : List ℕ). a ++ (justified w n ++ b)) (take_at done (drop s l) s long) rest ∙ sym (append_assoc done (justified w n) (drop (s + w) l)))

-- A byte more, after what is already written.
pub byte_next : (done l : List ℕ) (s b : ℕ) → length done ≡ s → s < length l → set (done ++ drop s l) s b ≡ done ++ (b ∷ drop (s + 1) l)
byte_next done l s b long room = ap (λ (t : List ℕ). set (done ++ t) s b) (next l s room) ∙ set_at done _ (drop (s + 1) l) b s long

pub part-long : (area : List ℕ) (at size : ℕ) → at + size ≤ length area → size ≤ length (take (length area - at) (drop at area))
part-long area at size room = simp (length-take, length-drop) (omega (arith, room))

-- A text of `size` bytes at a position of an area that has room for it.
module _ (area text : List ℕ) (at size : ℕ) (room : at + size ≤ length area) where
  -- Written into the part that starts there.
  pub text-put : put_mid at (length area - at) area (text ++ drop size (take (length area - at) (drop at area))) ≡ take at area ++ (text ++ drop (at + size) area)
  text-put =
      let width : at + size - at ≡ size = omega arith in
      ap (λ (k : ℕ). put_mid at (length area - at) area (text ++ drop k (take (length area - at) (drop at area)))) (sym width)
      ∙ part-written area at (at + size) text (omega arith) room

  module _ (long : length text ≡ size) where
    pub text-length : length (take at area ++ (text ++ drop (at + size) area)) ≡ length area
    text-length = simp (length-append, length-take, length-drop, long) (omega (arith, room))

    -- With a text to follow up to `end`.
    pub text-next : (more : List ℕ) (end : ℕ) → at + size ≤ end
        → take (at + size) (take at area ++ (text ++ drop (at + size) area)) ++ (more ++ drop end (take at area ++ (text ++ drop (at + size) area)))
        ≡ take at area ++ ((text ++ more) ++ drop end area)
    text-next more end low =
        let before = take at area ++ text in
        let after = drop (at + size) area in
        let whole : length before ≡ at + size = length-append (take at area) text ∙ ap₂ (λ (a b : ℕ). a + b) (length-take-le at area (omega (arith, room))) long in
        let all : take at area ++ (text ++ after) ≡ before ++ after = sym (append_assoc (take at area) text after) in
        let to : at + size + (end - (at + size)) ≡ end = omega arith in
        let front : take (at + size) (take at area ++ (text ++ after)) ≡ before = ap (take (at + size)) all ∙ take_at before after (at + size) whole in
        let rest : drop end (take at area ++ (text ++ after)) ≡ drop end area =
        ap₂ (λ (k : ℕ) (t : List ℕ). drop k t) (sym to ∙ ap (λ (k : ℕ). k + (end - (at + size))) (sym whole)) all
        ∙ drop-append-add before after (end - (at + size))
        ∙ drop-drop (end - (at + size)) (at + size) area
        ∙ ap (λ (k : ℕ). drop k area) to in
        ap₂ (λ (a b : List ℕ). a ++ (more ++ b)) front rest
        ∙ append_assoc (take at area) text (more ++ drop end area)
        ∙ ap (λ (t : List ℕ). take at area ++ t) (sym (append_assoc text more (drop end area)))

-- A text that is written piece by piece: `left` of it goes to `at`, and `whole` is the area in the end.
pub record Filling (whole left area : List ℕ) (size at : ℕ) : Type 0 where
  pub same_size : length area ≡ size
  pub room : at + length left ≤ length area
  pub ends : take at area ++ (left ++ drop (at + length left) area) ≡ whole

pub filling-first : (text area : List ℕ) → length text ≤ length area → Filling (text ++ drop (length text) area) text area (length area) 0
filling-first text area room =
    let start : 0 + length text ≡ length text = omega arith in
    record { same_size = refl; room = omega (arith, room); ends = ap (λ (k : ℕ). text ++ drop k area) start }

module _ {whole left area : List ℕ} {size at : ℕ} (now : Filling whole left area size at) where
  pub filling-next : (piece more area' : List ℕ) → left ≡ piece ++ more → area' ≡ take at area ++ (piece ++ drop (at + length piece) area)
      → Filling whole more area' size (at + length piece)
  filling-next piece more area' splits is =
      let both : length left ≡ length piece + length more = ap length splits ∙ length-append piece more in
      let fits : at + length piece ≤ length area = omega (arith, now.room, both) in
      let same : length area' ≡ length area = ap length is ∙ text-length area piece at (length piece) fits refl in
      let end : at + length piece + length more ≡ at + length left = omega (arith, both) in
      record {
        same_size = same ∙ now.same_size;
        room = omega (arith, now.room, both, same);
        ends =
            ap (λ (l : List ℕ). take (at + length piece) l ++ (more ++ drop (at + length piece + length more) l)) is
            ∙ text-next area piece at (length piece) fits refl more (at + length piece + length more) (omega arith)
            ∙ ap₂ (λ (t : List ℕ) (k : ℕ). take at area ++ (t ++ drop k area)) (sym splits) end
            ∙ now.ends;
      }

  -- Such a piece, of so many bytes, has room, and may be written into the part that starts there.
  module _ (piece more : List ℕ) (splits : left ≡ piece ++ more) (bytes : ℕ) (long : bytes ≡ length piece) where
    pub filling-room : at + bytes ≤ length area
    filling-room = omega (arith, now.room, ap length splits, length-append piece more, long)

    pub filling-put : (area' : List ℕ) → area' ≡ put_mid at (length area - at) area (piece ++ drop bytes (take (length area - at) (drop at area)))
        → Filling whole more area' size (at + bytes)
    filling-put area' is =
        subst (λ n. Filling whole more area' size (at + n)) (sym long)
        (filling-next piece more area' splits (is ∙ text-put area piece at bytes filling-room ∙ ap (λ n. take at area ++ (piece ++ drop (at + n) area)) long))

  pub filling-last : left ≡ [] → area ≡ whole
  filling-last none =
      let end : at + 0 ≡ at = omega arith in
      sym (take-append-drop at area)
      ∙ ap (λ (k : ℕ). take at area ++ drop k area) (sym end)
      ∙ ap (λ (l : List ℕ). take at area ++ (l ++ drop (at + length l) area)) (sym none)
      ∙ now.ends
