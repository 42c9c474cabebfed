-- One level of a link, as a loop that carries running sums sees it; the laws stand in proofs/Laws/LinkSteps.
use Rattle.std.specs.Prelude.{ℕ, List, [], ◌∷◌}
use Rattle.model.specs.Formula.{Aggregate, blocking}
use Rattle.model.specs.QueueTable.{Queue}
use Rattle.model.specs.LinkCheck.{Finding, level_code, or_else}

-- Blocking at each level.
unfoldable pub blockings : (best_effort : ℕ) → List Aggregate → List ℕ
blockings best_effort [] = []
blockings best_effort (a ∷ below) = blocking best_effort below ∷ blockings best_effort below

abbrev pub clear : Finding
clear = record { code = 0; level = 0 }

-- The finding at one level: the levels above it come as one with their sums, those below and the best-effort frame as one frame that blocks.
unfoldable pub level_finding : (speed n : ℕ) → Queue → (above own : Aggregate) (blocked : ℕ) → Finding
level_finding speed n q above own blocked = or_else (record { code = level_code speed blocked q (above ∷ []) own []; level = n }) clear
