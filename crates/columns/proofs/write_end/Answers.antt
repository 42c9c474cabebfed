-- `columns::write_end` meets its contract: byte by byte, then a field in the line so begun.
use Prim.Native.Nat.{ℕ, ◌≤◌}
use mathlib.Core.Path.{◌≡◌, refl, sym, ap, ◌∙◌}
use mathlib.Core.List.{List, [], ◌∷◌, ◌++◌, append_assoc}
use native.Mathlib.Omega.{arith}
use lib.ListN.{length, drop, set, length-set}
use Rattle.model.specs.Columns.{justified, written_at, end_line}
use Rattle.model.proofs.Laws.Answers.{justified-length}
use Rattle.columns.proofs.PartLaws.{field_next, byte_next}
use Rattle.columns.proofs.write_end.Goals as goal

-- `end` in the first bytes.
abbrev begun : List ℕ → List ℕ
begun l = set (set (set l 0 101) 1 110) 2 100

begins : (l : List ℕ) → 14 ≤ length l → begun l ≡ (101 ∷ 110 ∷ 100 ∷ []) ++ drop 3 l
begins l room =
    ap (λ (t : List ℕ). set (set t 1 110) 2 100) (byte_next [] l 0 101 refl (omega (arith, room)))
    ∙ ap (λ (t : List ℕ). set t 2 100) (byte_next (101 ∷ []) l 1 110 refl (omega (arith, room)))
    ∙ byte_next (101 ∷ 110 ∷ []) l 2 100 refl (omega (arith, room))

end-written : (l : List ℕ) (n : ℕ) → 14 ≤ length l → set (written_at 4 13 n (begun l)) 13 10 ≡ end_line n ++ drop 14 l
unfolding end_line
end-written l n room =
    let word : List ℕ = 101 ∷ 110 ∷ 100 ∷ [] in
    ap (λ (t : List ℕ). set (written_at 4 13 n t) 13 10) (begins l room)
    ∙ ap (λ (t : List ℕ). set t 13 10) (field_next word l 3 10 n refl)
    ∙ byte_next (word ++ justified 10 n) l 13 10 (omega (arith, justified-length 10 n)) (omega (arith, room))
    ∙ sym (append_assoc (word ++ justified 10 n) (10 ∷ []) (drop 14 l))

pub bounds-part-1 : goal.bounds-part-1
bounds-part-1 c = simp length-set (omega (arith, c.requires))

pub bounds-part-2 : goal.bounds-part-2
bounds-part-2 c = simp length-set (omega (arith, c.requires))

pub write_at-requires : goal.write_at-requires
write_at-requires c = (omega arith, (omega arith, simp length-set (omega (arith, c.requires))))

pub shape_of-part : goal.shape_of-part
shape_of-part c =
    let l = c.args.part.now in
    length-set c.write_at.new.line 13 10
    ∙ c.write_at.auto.line
    ∙ length-set (set (set l 0 101) 1 110) 2 100
    ∙ length-set (set l 0 101) 1 110
    ∙ length-set l 0 101

pub returns : goal.returns
returns c =
    ap (λ (t : List ℕ). set t 13 10) c.write_at.ensures ∙ end-written c.args.part.now c.args.n c.requires
