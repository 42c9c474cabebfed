-- Fields written one after the other, and the line begun with its LF.
-- Assumes nothing.
use Prim.Native.Nat.{ℕ, ◌≤◌}
use mathlib.Core.Path.{◌≡◌, refl, sym, ap, ap₂, ◌∙◌}
use mathlib.Core.List.{List, [], ◌∷◌, ◌++◌, append_assoc}
use native.Mathlib.Omega.{arith}
use lib.ListN.{length, take, drop, set, length-append, length-drop, length-set}
use lib.Seq.{take_at, drop_at, drop-drop}
use Rattle.model.specs.Columns.{justified, written_at}
use Rattle.model.specs.Reference.{Answer}
use Rattle.model.specs.Answers.{answer_columns, answer_line}
use Rattle.model.proofs.Laws.Answers.{justified-length}
use Rattle.model.proofs.Laws.List.{drop-set}
use Rattle.columns.proofs.PartLaws.{field_next}

-- A part with the columns of an answer written one after the other.
pub answer-written : (l : List ℕ) (a : Answer)
    → written_at 12 13 a.level (written_at 8 11 a.link (written_at 4 7 a.slot (written_at 1 3 a.code l))) ≡ answer_columns a ++ drop 13 l
unfolding answer_columns
answer-written l a =
    let code = justified 3 a.code in
    let slot = justified 4 a.slot in
    let link = justified 4 a.link in
    let level = justified 2 a.level in
    ap (λ (t : List ℕ). written_at 12 13 a.level (written_at 8 11 a.link (written_at 4 7 a.slot t))) (field_next [] l 0 3 a.code refl)
    ∙ ap (λ (t : List ℕ). written_at 12 13 a.level (written_at 8 11 a.link t)) (field_next code l 3 4 a.slot (justified-length 3 a.code))
    ∙ ap (λ (t : List ℕ). written_at 12 13 a.level t) (field_next (code ++ slot) l 7 4 a.link (simp (length-append, justified-length)))
    ∙ field_next ((code ++ slot) ++ link) l 11 2 a.level (simp (length-append, justified-length))
    ∙ ap (λ (t : List ℕ). t ++ drop 13 l) (append_assoc (code ++ slot) link level ∙ append_assoc code slot (link ++ level))

-- A line with its LF and its number.
module _ (l begun : List ℕ) (number : ℕ) (long : 20 ≤ length l) (is : begun ≡ written_at 1 6 number (set l 19 10)) where
  split : begun ≡ justified 6 number ++ drop 6 (set l 19 10)
  split = is ∙ field_next [] (set l 19 10) 0 6 number refl

  pub begun-length : length begun ≡ length l
  begun-length =
      ap length split
      ∙ length-append (justified 6 number) (drop 6 (set l 19 10))
      ∙ simp (justified-length, length-drop, length-set) (omega (arith, long))

  pub line-filled : (a : Answer) → take 6 begun ++ (answer_columns a ++ drop 19 begun) ≡ answer_line number a ++ drop 20 l
  unfolding answer_line
  line-filled a =
      let n = justified 6 number in
      let six = justified-length 6 number in
      let front : take 6 begun ≡ n = ap (take 6) split ∙ take_at n (drop 6 (set l 19 10)) 6 six in
      let rest : drop 19 begun ≡ 10 ∷ drop 20 l =
      sym (drop-drop 13 6 begun)
      ∙ ap (λ (t : List ℕ). drop 13 (drop 6 t)) split
      ∙ ap (drop 13) (drop_at n (drop 6 (set l 19 10)) 6 six)
      ∙ drop-drop 13 6 (set l 19 10)
      ∙ drop-set l 19 10 (omega (arith, long)) in
      ap₂ (λ (x y : List ℕ). x ++ (answer_columns a ++ y)) front rest
      ∙ ap (λ (t : List ℕ). n ++ t) (sym (append_assoc (answer_columns a) (10 ∷ []) (drop 20 l)))
      ∙ sym (append_assoc n (answer_columns a ++ (10 ∷ [])) (drop 20 l))
