-- Document 01, "The book": the levels of one link taken together. 21 for the link, then level by level from 1, 22 before 23.
use Rattle.std.specs.Prelude.{ℕ, suc, Bool, cond, List, [], ◌∷◌, leb, eqb}
use Rattle.model.specs.Total.{total}
use Rattle.model.specs.Formula.{Aggregate, within_rate, delay, backlog}
use Rattle.model.specs.QueueTable.{Queue}

-- What is wrong at a link: a code and a level (0 for 21), or nothing, code 0.
pub record Finding : Type 0 where
  pub code : ℕ
  pub level : ℕ

-- An empty level carries no flow: its largest frame is 0.
unfoldable pub is_empty : Aggregate → Bool
is_empty own = eqb own.frame 0

-- Eq. 15 at one level that carries a flow: 22, then 23, else 0.
unfoldable pub level_code : (speed best_effort : ℕ) → Queue → (above : List Aggregate) (own : Aggregate) (below : List Aggregate) → ℕ
level_code speed best_effort q above own below =
    cond (is_empty own) 0
    (cond (leb (delay speed best_effort above own below) q.threshold) (cond (leb (backlog speed best_effort above own below) q.buffer) 0 23) 22)

unfoldable pub or_else : Finding → Finding → Finding
or_else a b = cond (eqb a.code 0) b a

-- The levels from number `n` on; `above` are those before, the nearest first.
unfoldable pub levels_finding : (speed best_effort n : ℕ) (above : List Aggregate) → List Queue → List Aggregate → Finding
levels_finding speed best_effort n above [] own = record { code = 0; level = 0 }
levels_finding speed best_effort n above (q ∷ qs) [] = record { code = 0; level = 0 }
levels_finding speed best_effort n above (q ∷ qs) (a ∷ below) =
    or_else (record { code = level_code speed best_effort q above a below; level = n }) (levels_finding speed best_effort (suc n) (a ∷ above) qs below)

unfoldable pub rate_code : (speed : ℕ) → List Aggregate → ℕ
rate_code speed levels = cond (within_rate speed (total (λ a. a.rate) levels)) 0 21

unfoldable pub link_finding : (speed best_effort : ℕ) → List Queue → List Aggregate → Finding
link_finding speed best_effort queues levels =
    or_else (record { code = rate_code speed levels; level = 0 }) (levels_finding speed best_effort 1 [] queues levels)
