-- Document 01, "Columns", table lines, and "Who can cause which refusal", 1 to 5: what a table text says, for every text. Requests W-201, W-202: fixed delays
-- and best-effort frames.
use Rattle.std.specs.Prelude.{ℕ, suc, Bool, false, cond, ◌&&◌, ◌||◌, not, List, [], ◌∷◌, ◌++◌, reverse, length, leb, ltb, eqb}
use Rattle.std.proofs.Math.Option.{Option, none, some}
use Rattle.model.specs.Words.{and_then}
use Rattle.model.specs.Sizes.{links_most, levels_most, base_columns, delay_columns, best_effort_columns, table_bytes}
use Rattle.model.specs.Columns.{Line, ended, unended, lines, field_at, between}

-- A queue of a link: threshold in µs, buffer in bytes.
pub record Queue : Type 0 where
  pub threshold : ℕ
  pub buffer : ℕ

-- A link: its nodes, its speed in Mbit/s, its queues, level 1 first, the fixed delay of its cable and switch in µs, and the bytes of the longest best-effort
-- frame that shares it, 0 where none does.
pub record Link : Type 0 where
  pub from : ℕ
  pub to : ℕ
  pub speed : ℕ
  pub levels : List Queue
  pub fixed_delay : ℕ
  pub best_effort : ℕ

-- The queue table, link 1 first.
abbrev pub Table : Type 0
Table = List Link

-- The numbers of one table line.
pub record Row : Type 0 where
  pub link : ℕ
  pub from : ℕ
  pub to : ℕ
  pub speed : ℕ
  pub level : ℕ
  pub threshold : ℕ
  pub buffer : ℕ
  pub fixed_delay : ℕ
  pub best_effort : ℕ

-- A line may have these lengths, in columns.
unfoldable pub is_row_length : ℕ → Bool
is_row_length n = eqb n base_columns || eqb n delay_columns || eqb n best_effort_columns

-- A field that shorter lines haven't: there it is 0.
unfoldable pub later_field : (first last : ℕ) → (line : List ℕ) → Option ℕ
later_field first last line = cond (ltb (length line) last) (some 0) (field_at first last line)

-- The columns of a table line.
unfoldable pub row_fields : List ℕ → Option Row
row_fields line =
    and_then (field_at 1 4 line) λ link.
    and_then (field_at 5 8 line) λ from.
    and_then (field_at 9 12 line) λ to.
    and_then (field_at 13 18 line) λ speed.
    and_then (field_at 19 20 line) λ level.
    and_then (field_at 21 27 line) λ threshold.
    and_then (field_at 28 36 line) λ buffer.
    and_then (later_field 37 43 line) λ fixed_delay.
    and_then (later_field 44 48 line) λ best_effort.
    some
    (record {
      link = link;
      from = from;
      to = to;
      speed = speed;
      level = level;
      threshold = threshold;
      buffer = buffer;
      fixed_delay = fixed_delay;
      best_effort = best_effort;
    })

-- 1: a table line has 36, 43 or 48 columns, each field well formed.
unfoldable pub row : List ℕ → Option Row
row line = cond (is_row_length (length line)) (row_fields line) none

-- A best-effort frame: none, or as long as a frame is.
unfoldable pub best_effort_in_range : ℕ → Bool
best_effort_in_range n = eqb n 0 || between 84 1542 n

-- 2: each number is in its range. (Link and level are judged by 3.)
unfoldable pub row_in_range : Row → Bool
row_in_range r =
    between 1 9999 r.from
    && between 1 9999 r.to
    && between 1 10000 r.speed
    && between 1 100000 r.threshold
    && between 1 16777215 r.buffer
    && between 0 10000 r.fixed_delay
    && best_effort_in_range r.best_effort

-- While a table is read, its links stand newest first.
-- The line is the next level of the same link.
unfoldable pub continues : List Link → Row → Bool
continues [] r = false
continues (l ∷ ls) r = eqb r.link (length (l ∷ ls)) && eqb r.level (suc (length l.levels))

-- The line is level 1 of the next link.
unfoldable pub begins : List Link → Row → Bool
begins ls r = eqb r.link (suc (length ls)) && eqb r.level 1

-- 3: in turn, and not past 64 links or 8 levels.
unfoldable pub row_in_turn : List Link → Row → Bool
row_in_turn ls r = (continues ls r || begins ls r) && leb r.link links_most && leb r.level levels_most

-- The line has the nodes, the speed, the fixed delay and the best-effort frame of the newest link.
unfoldable pub same_link : List Link → Row → Bool
same_link [] r = false
same_link (l ∷ ls) r =
    eqb r.from l.from
    && eqb r.to l.to
    && eqb r.speed l.speed
    && eqb r.fixed_delay l.fixed_delay
    && eqb r.best_effort l.best_effort

-- 4: from and to are two nodes, and all that is the link's is the same within a link.
unfoldable pub row_agrees : List Link → Row → Bool
row_agrees ls r = not (eqb r.from r.to) && (begins ls r || same_link ls r)

-- The first cause against a line, 0 where there is none.
unfoldable pub row_cause : List Link → Row → ℕ
row_cause ls r = cond (row_in_range r) (cond (row_in_turn ls r) (cond (row_agrees ls r) 0 4) 3) 2

unfoldable pub queue_of : Row → Queue
queue_of r = record { threshold = r.threshold; buffer = r.buffer }

unfoldable pub new_link : Row → Link
new_link r =
    record { from = r.from; to = r.to; speed = r.speed; fixed_delay = r.fixed_delay; best_effort = r.best_effort; levels = queue_of r ∷ [] }

unfoldable pub add_level : Link → Queue → Link
add_level l q =
    record { from = l.from; to = l.to; speed = l.speed; fixed_delay = l.fixed_delay; best_effort = l.best_effort; levels = l.levels ++ (q ∷ []) }

-- The links with the line's queue: one level more of the newest link, or a link more.
unfoldable pub add_row : List Link → Row → List Link
add_row [] r = new_link r ∷ []
add_row (l ∷ ls) r = cond (begins (l ∷ ls) r) (new_link r ∷ l ∷ ls) (add_level l (queue_of r) ∷ ls)

-- What one line does to the links read so far.
pub data Step : Type 0 where
  links : List Link → Step
  fault : ℕ → Step

unfoldable pub row_step : List Link → Option Row → Step
row_step ls none = fault 1
row_step ls (some r) = cond (eqb (row_cause ls r) 0) (links (add_row ls r)) (fault (row_cause ls r))

unfoldable pub line_step : List Link → Line → Step
line_step ls unended = fault 1
line_step ls (ended line) = row_step ls (row line)

-- What a table text says: its links, or the code and the line of its first fault.
pub data TableText : Type 0 where
  accepted : Table → TableText
  refused : (code line : ℕ) → TableText

abbrev pub after_step : Step → (List Link → TableText) → (ℕ → TableText) → TableText
after_step (links ls) f g = f ls
after_step (fault c) f g = g c

-- The lines from number `n` on, after those that gave `ls`.
unfoldable pub read_lines : ℕ → List Link → List Line → TableText
read_lines n ls [] = accepted (reverse ls)
read_lines n ls (l ∷ more) = after_step (line_step ls l) (λ ls'. read_lines (suc n) ls' more) (λ code. refused code n)

-- 5 comes first, with line 0: a text above 512 of the longest lines, 25,088 bytes, isn't read.
unfoldable pub read_table : List ℕ → TableText
read_table text = cond (leb (length text) table_bytes) (read_lines 1 [] (lines text)) (refused 5 0)
