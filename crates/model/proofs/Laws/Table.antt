-- A table that is accepted passes 2 to 4, whatever the text: an invariant of the links read so far, line by line. Assumes nothing.
use Rattle.std.specs.Prelude.{ℕ, suc, ◌+◌, ◌≤◌, ◌≡◌, refl, Bool, true, false, cond, not, ◌&&◌, ◌||◌, List, [], ◌∷◌, ◌++◌, reverse, length, leb, eqb}
use Rattle.std.proofs.Math.Option.{Option, none, some}
use Rattle.std.proofs.Common.{arith, length-append, eqb-true, leb-true, le-leb}
use Rattle.std.proofs.lemmas.List.{length-reverse}
use Rattle.model.specs.Words.{All, every}
use Rattle.model.specs.Sizes.{links_most, levels_most, table_bytes}
use Rattle.model.specs.Columns.{Line, ended, unended, lines, between}
use Rattle.model.specs.QueueTable.{Link, Row, row, row_in_range, continues, begins, row_in_turn, same_link, row_agrees, row_cause, queue_of, new_link, add_level, add_row, Step, links, fault, row_step, line_step, refused, after_step, read_lines, read_table}
use Rattle.model.specs.Reference.{table_of}
use Rattle.model.specs.Consistent.{row_of, link_consistent, table_consistent}
use Rattle.model.proofs.Laws.Test.{and_both, both-and, or_left, or_right, cond-zero, every-all, all-every}
use Rattle.model.proofs.Laws.All.{all_append, all-imp, reverse-all}

-- What a consistent link meets, rule by rule.
pub record LinkRules (l : Link) : Type 0 where
  pub ranges : All (λ q. row_in_range (row_of l q) ≡ true) l.levels
  pub levels : between 1 levels_most (length l.levels) ≡ true
  pub nodes : not (eqb l.from l.to) ≡ true

pub link-rules : (l : Link) → link_consistent l ≡ true → LinkRules l
unfolding link_consistent
link-rules l e =
    let (e₁, nodes) = and_both (every (λ q. row_in_range (row_of l q)) l.levels && between 1 levels_most (length l.levels)) _ e in
    let (ranges, levels) = and_both (every (λ q. row_in_range (row_of l q)) l.levels) _ e₁ in
    record { ranges = every-all _ l.levels ranges; levels = levels; nodes = nodes }

rules-link : (l : Link) → LinkRules l → link_consistent l ≡ true
unfolding link_consistent
rules-link l r = both-and (both-and (all-every _ l.levels r.ranges) r.levels) r.nodes

-- No cause against a line.
pub record RowRules (ls : List Link) (r : Row) : Type 0 where
  pub range : row_in_range r ≡ true
  pub turn : row_in_turn ls r ≡ true
  pub agrees : row_agrees ls r ≡ true

pub row-rules : (ls : List Link) (r : Row) → row_cause ls r ≡ 0 → RowRules ls r
unfolding row_cause
row-rules ls r z =
    let (range, z₁) = cond-zero (row_in_range r) (omega arith) z in
    let (turn, z₂) = cond-zero (row_in_turn ls r) (omega arith) z₁ in
    record { range = range; turn = turn; agrees = (cond-zero (row_agrees ls r) (omega arith) z₂).0 }

-- 3: it goes on with a link or begins one, within the limits.
pub row-turn : (ls : List Link) (r : Row) → RowRules ls r → ((continues ls r || begins ls r) ≡ true) × (r.link ≤ links_most) × (r.level ≤ levels_most)
unfolding row_in_turn
row-turn ls r m =
    let (e, level) = and_both ((continues ls r || begins ls r) && leb r.link links_most) _ m.turn in
    let (e', link) = and_both (continues ls r || begins ls r) _ e in
    (e', leb-true _ _ link, leb-true _ _ level)

-- The links read so far.
pub record LinksRules (ls : List Link) : Type 0 where
  pub each : All LinkRules ls
  pub count : length ls ≤ links_most

new-link : (ls : List Link) (r : Row) → RowRules ls r → LinkRules (new_link r)
unfolding new_link row_of queue_of row_in_range row_agrees between
new-link ls r m = record { ranges = (m.range, tt); levels = refl; nodes = (and_both (not (eqb r.from r.to)) _ m.agrees).0 }

-- A level more of the newest link.
one_more : (l : Link) (r : Row) → LinkRules l → row_in_range r ≡ true → eqb r.level (suc (length l.levels)) ≡ true → r.level ≤ levels_most
    → (r.from ≡ l.from)
    → (r.to ≡ l.to)
    → (r.speed ≡ l.speed)
    → (r.fixed_delay ≡ l.fixed_delay)
    → (r.best_effort ≡ l.best_effort)
    → LinkRules (add_level l (queue_of r))
unfolding add_level row_of queue_of row_in_range between
one_more l r m range level high from to speed fixed effort =
    let more : length (l.levels ++ (queue_of r ∷ [])) ≡ length l.levels + 1 = length-append l.levels (queue_of r ∷ []) in
    let last : r.level ≡ suc (length l.levels) = eqb-true _ _ level in
    record {
      ranges = all_append _ l.levels (queue_of r ∷ []) m.ranges (rw (← from, ← to, ← speed, ← fixed, ← effort) range, tt);
      levels =
          both-and
          (le-leb 1 (length (l.levels ++ (queue_of r ∷ []))) (omega arith))
          (le-leb (length (l.levels ++ (queue_of r ∷ []))) levels_most (omega arith));
      nodes = m.nodes;
    }

add_row_lem : (ls : List Link) (r : Row) → LinksRules ls → RowRules ls r → LinksRules (add_row ls r)
unfolding add_row begins continues row_agrees same_link
add_row_lem [] r m n = record { each = (new-link [] r n, tt); count = omega arith }
add_row_lem (l ∷ ls) r m n = go (begins (l ∷ ls) r) refl
  where
    turn : ((continues (l ∷ ls) r || begins (l ∷ ls) r) ≡ true) × (r.link ≤ links_most) × (r.level ≤ levels_most)
    turn = row-turn (l ∷ ls) r n

    begun : begins (l ∷ ls) r ≡ true → r.link ≡ suc (length (l ∷ ls))
    begun e = eqb-true _ _ (and_both (eqb r.link (suc (length (l ∷ ls)))) _ e).0

    goes_on : begins (l ∷ ls) r ≡ false → eqb r.level (suc (length l.levels)) ≡ true
    goes_on e = (and_both (eqb r.link (length (l ∷ ls))) _ (or_left _ _ turn.0 e)).1

    same : begins (l ∷ ls) r ≡ false
        → (r.from ≡ l.from) × (r.to ≡ l.to) × (r.speed ≡ l.speed) × (r.fixed_delay ≡ l.fixed_delay) × (r.best_effort ≡ l.best_effort)
    same e =
        let agrees = (and_both (not (eqb r.from r.to)) _ n.agrees).1 in
        let (four, effort) = and_both (eqb r.from l.from && eqb r.to l.to && eqb r.speed l.speed && eqb r.fixed_delay l.fixed_delay) _ (or_right _ _ agrees e) in
        let (three, fixed) = and_both (eqb r.from l.from && eqb r.to l.to && eqb r.speed l.speed) _ four in
        let (two, speed) = and_both (eqb r.from l.from && eqb r.to l.to) _ three in
        let (from, to) = and_both (eqb r.from l.from) _ two in
        (eqb-true _ _ from, eqb-true _ _ to, eqb-true _ _ speed, eqb-true _ _ fixed, eqb-true _ _ effort)

    go : (b : Bool) → begins (l ∷ ls) r ≡ b → LinksRules (cond b (new_link r ∷ l ∷ ls) (add_level l (queue_of r) ∷ ls))
    go true e = record { each = (new-link (l ∷ ls) r n, m.each); count = omega (arith, begun e, turn.1) }
    go false e =
        record {
          each = (one_more l r m.each.0 n.range (goes_on e) turn.2 (same e).0 (same e).1 (same e).2 (same e).3 (same e).4, m.each.1);
          count = m.count;
        }

-- What a reading step leaves behind.
abbrev Sound : Step → Type 0
Sound (links ls) = LinksRules ls
Sound (fault code) = Unit {0}

row-sound : (ls : List Link) (o : Option Row) → LinksRules ls → Sound (row_step ls o)
unfolding row_step
row-sound ls none m = tt
row-sound ls (some r) m = go (eqb (row_cause ls r) 0) refl
  where
    go : (b : Bool) → eqb (row_cause ls r) 0 ≡ b → Sound (cond b (links (add_row ls r)) (fault (row_cause ls r)))
    go true e = add_row_lem ls r m (row-rules ls r (eqb-true _ _ e))
    go false e = tt

line-sound : (ls : List Link) (l : Line) → LinksRules ls → Sound (line_step ls l)
unfolding line_step
line-sound ls unended m = tt
line-sound ls (ended line) m = row-sound ls (row line) m

lines-consistent : (n : ℕ) (ls : List Link) (more : List Line) → LinksRules ls → table_consistent (table_of (read_lines n ls more)) ≡ true
unfolding read_lines table_of table_consistent every
lines-consistent n ls [] m =
    both-and
    (all-every link_consistent (reverse ls) (all-imp (reverse ls) rules-link (reverse-all LinkRules ls m.each)))
    (le-leb (length (reverse ls)) links_most (rw (length-reverse ls) m.count))
lines-consistent n ls (l ∷ more) m = go (line_step ls l) (line-sound ls l m) (λ ls'. lines-consistent (suc n) ls' more)
  where
    go : (step : Step) → Sound step → ((ls' : List Link) → LinksRules ls' → table_consistent (table_of (read_lines (suc n) ls' more)) ≡ true)
        → table_consistent (table_of (after_step step (λ ls'. read_lines (suc n) ls' more) (λ code. refused code n)))
        ≡ true
    go (links ls') s r = r ls' s
    go (fault code) s r = refl

-- Of any text: the table it says, and none if it was refused.
pub table-consistent : (text : List ℕ) → table_consistent (table_of (read_table text)) ≡ true
unfolding read_table table_of table_consistent every
table-consistent text = go (leb (length text) table_bytes)
  where
    go : (b : Bool) → table_consistent (table_of (cond b (read_lines 1 [] (lines text)) (refused 5 0))) ≡ true
    go true = lines-consistent 1 [] (lines text) (record { each = tt; count = omega arith })
    go false = refl
