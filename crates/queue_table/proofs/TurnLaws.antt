-- A row that nothing is against begins the next link or continues the newest, and storing it is the model's step; the ways of any line.
-- Assumes nothing.
use Prim.Native.Nat.{ℕ, zero, suc, ◌+◌, ◌-◌, ◌≤◌, ◌<◌}
use mathlib.Core.Path.{◌≡◌, refl, sym, ap, ap₂, ◌∙◌}
use mathlib.Core.Bool.{Bool, true, false, not, ◌&&◌, ◌||◌, true≢false}
use mathlib.Core.List.{List, [], ◌∷◌, ◌++◌}
use mathlib.Core.Option.{none, some}
use Rattle.std.specs.Prelude.{Ok, Err}
use native.Mathlib.Omega.{arith}
use native.Mathlib.Decide.{dec_lt}
use borrow.Author.Tests.{eqb-true}
use lib.Dec.{eqb}
use Rattle.model.specs.Sizes.{links_most, levels_most}
use Rattle.model.specs.Columns.{Line, ended, unended}
use Rattle.model.specs.QueueTable as model
use Rattle.model.proofs.Laws.Test.{and_both, or_left, or_right}
use Rattle.model.proofs.Laws.Table.{RowRules, row-rules, row-turn}
use Rattle.queue_table.specs.declared.Fault.{Fault}
use Rattle.queue_table.specs.declared.Fault.TheVariants.{Malformed, OutOfRange, OutOfTurn, Disagrees, TooLong}
use Rattle.queue_table.specs.declared.row.Row.{Row}
use Rattle.queue_table.specs.View.{numbers_of, up_to, queue_at, from_at, to_at, speed_at, levels_at, fixed_delay_at, best_effort_at, link_at, links_of, fault_code, row_stored, Linked, Placed, LineAdded}
use Rattle.queue_table.proofs.ViewLaws.{begins_at, continues_none, continues_at, same_at, links-newest}
use Rattle.queue_table.proofs.StoreLaws.{link_with, older-links, older-levels, stored, stored-levels, link-stored, stored-long}

-- How a row may stand in turn after n links.
record Begun (n : ℕ) (r : model.Row) : Type 0 where
  link : r.link ≡ n + 1
  level : r.level ≡ 1

record Continued (n : ℕ) (table : List ℕ) (r : model.Row) : Type 0 where
  more : 0 < n
  link : r.link ≡ n
  level : r.level ≡ levels_at table (n - 1) + 1
  from : r.from ≡ from_at table (n - 1)
  to : r.to ≡ to_at table (n - 1)
  speed : r.speed ≡ speed_at table (n - 1)
  fixed : r.fixed_delay ≡ fixed_delay_at table (n - 1)
  effort : r.best_effort ≡ best_effort_at table (n - 1)

module _ (n : ℕ) (table : List ℕ) (r : model.Row) (free : model.row_cause (links_of n table) r ≡ 0) where
  judged : RowRules (links_of n table) r
  judged = row-rules (links_of n table) r free

  in-turn : ((model.continues (links_of n table) r || model.begins (links_of n table) r) ≡ true) × (r.link ≤ links_most) × (r.level ≤ levels_most)
  in-turn = row-turn (links_of n table) r judged

  begun : model.begins (links_of n table) r ≡ true → Begun n r
  begun e =
      let two = and_both (eqb r.link (n + 1)) (eqb r.level 1) (sym (begins_at table n r) ∙ e) in
      record { link = eqb-true r.link (n + 1) two.0; level = eqb-true r.level 1 two.1 }

  continues : model.begins (links_of n table) r ≡ false → model.continues (links_of n table) r ≡ true
  continues e = or_left _ _ in-turn.0 e

  same : model.begins (links_of n table) r ≡ false → model.same_link (links_of n table) r ≡ true
  unfolding model.row_agrees
  same e = or_right _ _ (and_both (not (eqb r.from r.to)) _ judged.agrees).1 e

  continued : model.begins (links_of n table) r ≡ false → Continued n table r
  continued e = go n refl
    where
      go : (m : ℕ) → n ≡ m → Continued n table r
      go zero at = absurd (true≢false (sym (continues e) ∙ continues_none table n r at))
      go (suc m) at =
          let more : 0 < n = omega arith in
          let turn = and_both (eqb r.link n) (eqb r.level (levels_at table (n - 1) + 1)) (sym (continues_at table n r more) ∙ continues e) in
          let four = and_both (eqb r.from (from_at table (n - 1)) && eqb r.to (to_at table (n - 1)) && eqb r.speed (speed_at table (n - 1)) && eqb r.fixed_delay (fixed_delay_at table (n - 1))) _ (sym (same_at table n r more) ∙ same e) in
          let three = and_both (eqb r.from (from_at table (n - 1)) && eqb r.to (to_at table (n - 1)) && eqb r.speed (speed_at table (n - 1))) _ four.0 in
          let ends = and_both (eqb r.from (from_at table (n - 1)) && eqb r.to (to_at table (n - 1))) (eqb r.speed (speed_at table (n - 1))) three.0 in
          let nodes = and_both (eqb r.from (from_at table (n - 1))) (eqb r.to (to_at table (n - 1))) ends.0 in
          record {
            more = more;
            link = eqb-true r.link n turn.0;
            level = eqb-true r.level (levels_at table (n - 1) + 1) turn.1;
            from = eqb-true r.from (from_at table (n - 1)) nodes.0;
            to = eqb-true r.to (to_at table (n - 1)) nodes.1;
            speed = eqb-true r.speed (speed_at table (n - 1)) ends.1;
            fixed = eqb-true r.fixed_delay (fixed_delay_at table (n - 1)) three.1;
            effort = eqb-true r.best_effort (best_effort_at table (n - 1)) four.1;
          }

-- A row that begins a link is a link more; any other goes to the newest.
add-begun : (ls : List model.Link) (r : model.Row) → model.begins ls r ≡ true → model.add_row ls r ≡ model.new_link r ∷ ls
unfolding model.add_row
add-begun [] r e = refl
add-begun (l ∷ ls) r e = simp e

add-continued : (l : model.Link) (ls : List model.Link) (r : model.Row) → model.begins (l ∷ ls) r ≡ false
    → model.add_row (l ∷ ls) r ≡ model.add_level l (model.queue_of r) ∷ ls
unfolding model.add_row
add-continued l ls r e = simp e

module _ (n : ℕ) (table : List ℕ) (r : model.Row) (linked : Linked n table) (free : model.row_cause (links_of n table) r ≡ 0) where
  low : (b : Bool) → model.begins (links_of n table) r ≡ b → (1 ≤ r.link) × (1 ≤ r.level) × (r.link - 1 ≤ n)
  low true e = let at = begun n table r free e in (omega (arith, at.link), omega (arith, at.level), omega (arith, at.link))
  low false e =
      let at = continued n table r free e in
      (omega (arith, at.link, at.more), omega (arith, at.level), omega (arith, at.link))

  pub placed : Placed r table
  placed =
      let lows = low (model.begins (links_of n table) r) refl in
      let highs = in-turn n table r free in
      record {
        long = linked.long;
        link-low = lows.0;
        link-high = highs.1;
        level-low = lows.1;
        level-high = highs.2;
      }

  -- The stored row's link, before the older ones.
  newest : links_of r.link (row_stored r table)
      ≡ link_with r (up_to (r.level - 1) (queue_at table (r.link - 1)) ++ (model.queue_of r ∷ [])) ∷ links_of (r.link - 1) table
  newest =
      let lows = low (model.begins (links_of n table) r) refl in
      links-newest (row_stored r table) r.link lows.0
      ∙ ap₂ (λ (l : model.Link) (ls : List model.Link). l ∷ ls)
      (stored r table placed ∙ ap (link_with r) (stored-levels r table placed))
      (older-links r table placed (r.link - 1) (omega arith) (λ i lt. linked.shallow i (omega (arith, lows.2))))

  -- Continued, it is the newest link with a level more.
  grown : Continued n table r
      → link_with r (up_to (r.level - 1) (queue_at table (r.link - 1)) ++ (model.queue_of r ∷ []))
      ≡ model.add_level (link_at table (n - 1)) (model.queue_of r)
  unfolding model.add_level link_at
  grown at =
      let levels : r.level - 1 ≡ levels_at table (n - 1) = omega (arith, at.level) in
      let link : r.link - 1 ≡ n - 1 = omega (arith, at.link) in
      λ t.
      record {
        from = at.from t;
        to = at.to t;
        speed = at.speed t;
        fixed_delay = at.fixed t;
        best_effort = at.effort t;
        levels = up_to (levels t) (queue_at table (link t)) ++ (model.queue_of r ∷ []);
      }

  step : (b : Bool) → model.begins (links_of n table) r ≡ b
      → links_of r.link (row_stored r table) ≡ model.add_row (links_of n table) r
  unfolding model.new_link up_to
  step true e =
      let at = begun n table r free e in
      let first : r.level - 1 ≡ 0 = omega (arith, at.level) in
      let older : r.link - 1 ≡ n = omega (arith, at.link) in
      newest ∙ rw (older, first) (sym (add-begun (links_of n table) r e))
  step false e =
      let at = continued n table r free e in
      let split = links-newest table n at.more in
      newest
      ∙ ap₂ (λ (l : model.Link) (ls : List model.Link). l ∷ ls) (grown at) (ap (λ (m : ℕ). links_of m table) (ap (λ (m : ℕ). m - 1) at.link))
      ∙ sym (add-continued (link_at table (n - 1)) (links_of (n - 1) table) r (ap (λ (ls : List model.Link). model.begins ls r) (sym split) ∙ e))
      ∙ ap (λ (ls : List model.Link). model.add_row ls r) (sym split)

  pub stored_row : links_of r.link (row_stored r table) ≡ model.add_row (links_of n table) r
  stored_row = step (model.begins (links_of n table) r) refl

  own-levels : levels_at (row_stored r table) (r.link - 1) ≡ r.level
  unfolding levels_at
  own-levels = link-stored r table placed 3 (omega arith)

  -- Each link has at most 8 levels still: an older one as before, the row's own up to its level.
  shallow : (i : ℕ) → i < r.link → Dec (i < r.link - 1) → levels_at (row_stored r table) i ≤ levels_most
  shallow i h (yes lt) =
      let lows = low (model.begins (links_of n table) r) refl in
      omega (arith, older-levels r table placed i lt, linked.shallow i (omega (arith, lows.2)))
  shallow i h (no ge) =
      let e : i ≡ r.link - 1 = omega arith in
      rw e (omega (arith, own-levels, placed.level-high))

  pub stored_linked : Linked r.link (row_stored r table)
  stored_linked =
      record { long = stored-long r table placed; few = placed.link-high; shallow = λ i h. shallow i h (dec_lt i (r.link - 1)) }

-- A fault has a code.
fault-coded : (fault : Fault) → eqb (fault_code fault) 0 ≡ false
fault-coded Malformed = refl
fault-coded OutOfRange = refl
fault-coded OutOfTurn = refl
fault-coded Disagrees = refl
fault-coded TooLong = refl

-- The ways of a line: malformed, refused, or added.
module _ (ls : List model.Link) (line : List ℕ) where
  pub step_malformed : model.row line ≡ none → model.line_step ls (ended line) ≡ model.fault 1
  unfolding model.line_step model.row_step
  step_malformed e = simp e

  pub step_refused : (r : model.Row) (fault : Fault) → model.row line ≡ some r → fault_code fault ≡ model.row_cause ls r
      → model.line_step ls (ended line) ≡ model.fault (fault_code fault)
  unfolding model.line_step model.row_step
  step_refused r fault e cause = simp (e, sym cause, fault-coded fault)

  pub step_added : (r : model.Row) → model.row line ≡ some r → model.row_cause ls r ≡ 0
      → model.line_step ls (ended line) ≡ model.links (model.add_row ls r)
  unfolding model.line_step model.row_step
  step_added r e free = simp (e, free)

step_unended : (ls : List model.Link) → model.line_step ls unended ≡ model.fault 1
unfolding model.line_step
step_unended ls = refl

-- A line without its end is malformed; another one is malformed or refused, and the array stays as it was, or its row is stored.
pub line_unended : (n : ℕ) (table : List ℕ) → Linked n table → LineAdded n table table unended (Err Malformed)
line_unended n table linked = record { same = sym (step_unended (links_of n table)); kept = linked }

module _ (n : ℕ) (table line : List ℕ) (linked : Linked n table) where
  pub line_refused : (r : model.Row) (fault : Fault) → model.row line ≡ some r → fault_code fault ≡ model.row_cause (links_of n table) r
      → LineAdded n table table (ended line) (Err fault)
  line_refused r fault e cause = record { same = sym (step_refused (links_of n table) line r fault e cause); kept = linked }

  pub line_added : (r : Row) (table' : List ℕ) → table' ≡ row_stored (numbers_of r) table
      → model.row line ≡ some (numbers_of r) → 0 ≡ model.row_cause (links_of n table) (numbers_of r) → LineAdded n table table' (ended line) (Ok r.link)
  line_added r table' after e free =
      record {
        same = rw after (ap model.links (stored_row n table (numbers_of r) linked (sym free)) ∙ sym (step_added (links_of n table) line (numbers_of r) e (sym free)));
        kept = rw after (stored_linked n table (numbers_of r) linked (sym free));
      }

-- A line's step, and then the lines after it.
module _ (m : ℕ) (ls : List model.Link) (l : Line) (rest : List Line) where
  pub read_fault : (code : ℕ) → model.line_step ls l ≡ model.fault code → model.read_lines m ls (l ∷ rest) ≡ model.refused code m
  unfolding model.read_lines
  read_fault code e = simp e

  pub read_links : (next : List model.Link) → model.line_step ls l ≡ model.links next → model.read_lines m ls (l ∷ rest) ≡ model.read_lines (suc m) next rest
  unfolding model.read_lines
  read_links next e = simp e
