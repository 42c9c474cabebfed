-- What a table text is refused for and what a batch returns are as document 01 lists them; a refused batch writes nothing.
-- Line by line along the text, test by test. Assumes nothing.
use Rattle.std.specs.Prelude.{ℕ, suc, ◌+◌, ◌≤◌, ◌<◌, ◌≡◌, refl, Bool, true, false, cond, length, leb, eqb}
use mathlib.Core.List.Memᴰ
use mathlib.Core.List.{List, [], ◌∷◌, Memᴰ}
use Rattle.std.proofs.Math.Option.{Option, none, some}
use Rattle.std.proofs.Common.{arith}
use Rattle.model.specs.Sizes.{table_bytes}
use Rattle.model.specs.Columns.{Line, ended, unended, lines}
use Rattle.model.specs.QueueTable.{Link, Table, Row, row, row_in_range, row_in_turn, row_agrees, row_cause, add_row, Step, links, fault, row_step, line_step, TableText, accepted, refused, after_step, read_lines, read_table}
use Rattle.model.specs.Reference.{State, opened}
use Rattle.model.specs.Batch.{Batch, refused_batch, done_batch, too_long, too_short, after_table, batch}
use Rattle.model.specs.Codes as codes
use Rattle.model.specs.Codes.{row_codes, open_codes, host_codes, batch_codes, FaultListed, size, TextListed, text_code, BatchListed, done, host}
use Rattle.model.proofs.Laws.All.{member-at, all-member}

-- A fault of one line.
abbrev StepListed : Step → Type 0
StepListed (links ls) = Unit {0}
StepListed (fault code) = Memᴰ code row_codes

row_listed : (ls : List Link) (o : Option Row) → StepListed (row_step ls o)
unfolding row_step row_cause
row_listed ls none = member-at row_codes 0 refl
row_listed ls (some r) = go (row_in_range r) (row_in_turn ls r) (row_agrees ls r)
  where
    go : (range turn agrees : Bool) → let code : ℕ = cond range (cond turn (cond agrees 0 4) 3) 2 in
        StepListed (cond (eqb code 0) (links (add_row ls r)) (fault code))
    go true true true = tt
    go true true false = member-at row_codes 3 refl
    go true false agrees = member-at row_codes 2 refl
    go false turn agrees = member-at row_codes 1 refl

step-listed : (ls : List Link) (l : Line) → StepListed (line_step ls l)
unfolding line_step
step-listed ls unended = member-at row_codes 0 refl
step-listed ls (ended line) = row_listed ls (row line)

-- A fault of the lines from one number on, below another.
abbrev Within : (low high : ℕ) → TableText → Type 0
Within low high (accepted t) = Unit {0}
Within low high (refused code line) = Memᴰ code row_codes × (low ≤ line) × (line < high)

later : (n m : ℕ) (r : TableText) → Within (suc n) (suc n + m) r → Within n (n + suc m) r
later n m (accepted t) w = tt
later n m (refused code line) w = (w.0, omega (arith, w.1), omega (arith, w.2))

lines-within : (n : ℕ) (ls : List Link) (l : List Line) → Within n (n + length l) (read_lines n ls l)
unfolding read_lines
lines-within n ls [] = tt
lines-within n ls (l ∷ more) = go (line_step ls l) (step-listed ls l) (λ ls'. lines-within (suc n) ls' more)
  where
    go : (s : Step) → StepListed s → ((ls' : List Link) → Within (suc n) (suc n + length more) (read_lines (suc n) ls' more))
        → Within n (n + suc (length more)) (after_step s (λ ls'. read_lines (suc n) ls' more) (λ code. refused code n))
    go (links ls') m rest = later n (length more) (read_lines (suc n) ls' more) (rest ls')
    go (fault code) m rest = (m, omega arith, omega arith)

pub read-listed : (text : List ℕ) → TextListed text (read_table text)
unfolding read_table
read-listed text = go (leb (length text) table_bytes)
  where
    read : (r : TableText) → Within 1 (1 + length (lines text)) r → TextListed text r
    read (accepted t) w = tt
    read (refused code line) w = codes.row w.0 w.1 (omega (arith, w.2))

    go : (b : Bool) → TextListed text (cond b (read_lines 1 [] (lines text)) (refused 5 0))
    go true = read (read_lines 1 [] (lines text)) (lines-within 1 [] (lines text))
    go false = size refl refl

-- A batch returns what is listed, and writes nothing where it is refused.
abbrev Returned : (table orders area : List ℕ) → Batch → Type 0
Returned table orders area b = BatchListed table orders b.code b.line × ((b.code ≡ 0 → ⊥) → b.area ≡ area)

pub returned-listed : (table orders area : List ℕ) → Returned table orders area (batch table orders area)
unfolding batch after_table refused_batch done_batch
returned-listed table orders area = go (read_table table) (read-listed table)
  where
    judged : (long short : Bool) (s : State)
        → Returned table orders area (cond long (refused_batch 41 0 area) (cond short (refused_batch 40 0 area) (done_batch s (lines orders) area)))
    judged true short s = (host (member-at host_codes 1 refl) refl, λ h. refl)
    judged false true s = (host (member-at host_codes 0 refl) refl, λ h. refl)
    judged false false s = (done refl refl, λ h. absurd (h refl))

    go : (r : TableText) → TextListed table r → Returned table orders area (after_table r (opened table) orders area)
    go (accepted t) l = judged (too_long orders) (too_short orders area) (opened table)
    go (refused code line) l = (codes.fault l, λ h. refl)

-- A batch that returns 0 had its table accepted and its orders answered.
pub returned-done : (table orders area : List ℕ) → (batch table orders area).code ≡ 0
    → (t : Table) × (read_table table ≡ accepted t) × (batch table orders area ≡ done_batch (opened table) (lines orders) area)
unfolding batch after_table refused_batch done_batch
returned-done table orders area = go (read_table table) refl (read-listed table)
  where
    not_done : (code line : ℕ) → FaultListed table code line → code ≡ 0 → ⊥
    not_done code line (codes.row m low high) z = absurd (omega (arith, all-member (λ n. 1 ≤ n) {l = row_codes} (omega arith, (omega arith, (omega arith, (omega arith, tt)))) m))
    not_done code line (size e e₁) z = omega (arith, e)

    judged : (t : Table) (long short : Bool) → let b = cond long (refused_batch 41 0 area) (cond short (refused_batch 40 0 area) (done_batch (opened table) (lines orders) area)) in
        b.code ≡ 0 → b ≡ done_batch (opened table) (lines orders) area
    judged t true short z = absurd (omega arith)
    judged t false true z = absurd (omega arith)
    judged t false false z = refl

    go : (r : TableText) → read_table table ≡ r → TextListed table r → (after_table r (opened table) orders area).code ≡ 0
        → (t : Table) × (read_table table ≡ accepted t) × (after_table r (opened table) orders area ≡ done_batch (opened table) (lines orders) area)
    go (accepted t) e l z = (t, e, judged t (too_long orders) (too_short orders area) z)
    go (refused code line) e l z = absurd (not_done code line l z)

-- The codes stand in their lists.
fault-code : (text : List ℕ) (code line : ℕ) → FaultListed text code line → Memᴰ code open_codes
fault-code text code line (codes.row m low high) = Memᴰ.tail (Memᴰ.tail m)
fault-code text code line (size e e₁) = Memᴰ.tail (Memᴰ.head e)

pub text-code : (text : List ℕ) (r : TableText) → TextListed text r → Memᴰ (text_code r) open_codes
text-code text (accepted t) l = Memᴰ.head refl
text-code text (refused code line) l = fault-code text code line l

pub batch-code : (table orders : List ℕ) (code line : ℕ) → BatchListed table orders code line → Memᴰ code batch_codes
batch-code table orders code line (done e e₁) = Memᴰ.head e
batch-code table orders code line (codes.fault l) = Memᴰ.append_left host_codes (fault-code table code line l)
batch-code table orders code line (host m e) = Memᴰ.append_right open_codes m
