-- What stands before the lines that follow; the laws stand in proofs/Laws/Columns.
use Rattle.std.specs.Prelude.{ℕ, List, [], ◌∷◌}
use Rattle.model.specs.Columns.{Line, prepend}

-- Bytes without an LF, put before the lines that follow.
unfoldable pub prepend_all : List ℕ → List Line → List Line
prepend_all [] ls = ls
prepend_all (b ∷ bs) ls = prepend b (prepend_all bs ls)
