-- Document 01, "Columns", answer lines.
use Rattle.std.specs.Prelude.{ℕ, List, [], ◌∷◌, ◌++◌}
use Rattle.model.specs.Columns.{justified}
use Rattle.model.specs.Reference.{Answer}

-- An answer line after the line number: code 3 columns, place 4, link 4, level 2.
unfoldable pub answer_columns : Answer → List ℕ
answer_columns a = justified 3 a.code ++ (justified 4 a.slot ++ (justified 4 a.link ++ justified 2 a.level))

-- An answer line has 19 columns, the order's line number in the first six; then LF.
unfoldable pub answer_line : (number : ℕ) → Answer → List ℕ
answer_line number a = justified 6 number ++ (answer_columns a ++ (10 ∷ []))
