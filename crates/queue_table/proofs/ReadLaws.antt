-- The lines of a text, read one after the other: what holds before each, and what it says of the whole text once one is refused or none is left.
-- Assumes nothing.
use Prim.Native.Nat.{ℕ, ◌+◌, ◌≤◌, ◌<◌}
use mathlib.Core.Path.{◌≡◌, refl, sym, ◌∙◌, ap}
use mathlib.Core.List.{List, [], ◌∷◌, reverse}
use native.Mathlib.Omega.{arith}
use borrow.Author.Tests.{le-leb, lt-leb}
use lib.ListN.{length, set}
use Rattle.std.specs.Prelude.{Result, Ok, Err}
use Rattle.model.specs.Sizes.{table_bytes}
use Rattle.model.specs.Columns.{Line, lines}
use Rattle.model.specs.QueueTable as model
use Rattle.model.specs.Reference.{table_of}
use Rattle.queue_table.specs.declared.Fault.{Fault}
use Rattle.queue_table.specs.declared.Fault.TheVariants.{TooLong}
use Rattle.queue_table.specs.declared.Refusal.{Refusal}
use Rattle.queue_table.specs.View.{count_position, table_numbers, up_to, links_of, fault_code, verdict_of, links_read, Linked, LineAdded, LinesRead, TableFilled}
use Rattle.queue_table.proofs.ViewLaws.{links-none, links-reversed}
use Rattle.columns.proofs.LineLaws.{few_lines}
use Rattle.queue_table.proofs.TurnLaws.{read_fault, read_links}
use native.Mathlib.Numerals.{add-one}
use Rattle.queue_table.proofs.StoreLaws.{table_counted, counted-formed}

-- What holds before each line: the lines left, after the links read so far, say what the whole text says.
pub record Reading (text table : List ℕ) (left : List Line) (number n : ℕ) : Type 0 where
  pub linked : Linked n table
  pub counted : number + length left ≤ length text + 1
  pub same : model.read_lines number (links_of n table) left ≡ model.read_lines 1 [] (lines text)

no-links : (table : List ℕ) → length table ≡ table_numbers → Linked 0 table
no-links table l = record { long = l; few = omega arith; shallow = λ i h. absurd (omega arith) }

nothing-left : (line : ℕ) (ls : List model.Link) {left : List Line} → left ≡ [] → model.read_lines line ls left ≡ model.accepted (reverse ls)
unfolding model.read_lines
nothing-left line ls e = ap (model.read_lines line ls) e

long-text : (text : List ℕ) → table_bytes < length text → model.refused 5 0 ≡ model.read_table text
unfolding model.read_table
long-text text h = sym (simp (lt-leb (length text) table_bytes h))

short-text : (text : List ℕ) (t : model.TableText) → length text ≤ table_bytes → t ≡ model.read_lines 1 [] (lines text) → t ≡ model.read_table text
unfolding model.read_table
short-text text t h e = simp (le-leb (length text) table_bytes h) e

module _ (text table : List ℕ) where
  pub text_long : (refusal : Refusal) → refusal ≡ record { fault = TooLong; line = 0 } → length table ≡ table_numbers → table_bytes < length text
      → LinesRead text table (Err refusal)
  unfolding table_of up_to
  text_long refusal e long h =
      let said = long-text text h in
      rw e (record { same = said; held = ap table_of said; kept = no-links table long })

  pub reading_begun : (left : List Line) → left ≡ lines text → length table ≡ table_numbers → Reading text table left 1 0
  reading_begun left all long =
      rw all
      (record {
        linked = no-links table long;
        counted = omega (arith, few_lines text);
        same = ap (λ (ls : List model.Link). model.read_lines 1 ls (lines text)) (links-none table 0 refl);
      })

  pub reading_next : (left left' : List Line) (number n m : ℕ) (table' : List ℕ) (line : Line) → Reading text table left number n → left ≡ line ∷ left'
      → LineAdded n table table' line (Ok m) → Reading text table' left' (number + 1) m
  reading_next left left' number n m table' line reading first added =
      record {
        linked = added.kept;
        counted = omega (arith, reading.counted, ap (length {A = Line}) first);
        same = rw (add-one number)
            (sym (read_links number (links_of n table) line left' (links_of m table') (sym added.same))
            ∙ sym (ap (model.read_lines number (links_of n table)) first)
            ∙ reading.same);
      }

  pub reading_ended : (left : List Line) (number n : ℕ) → Reading text table left number n → left ≡ [] → length text ≤ table_bytes
      → LinesRead text table (Ok n)
  unfolding table_of
  reading_ended left number n reading none short =
      let said =
      short-text text _ short (sym (sym reading.same ∙ nothing-left number (links_of n table) none ∙ ap model.accepted (links-reversed table n))) in
      record { same = said; held = ap table_of said; kept = reading.linked }

  pub line_faulty : (left left' : List Line) (number n : ℕ) (table' : List ℕ) (fault : Fault) (line : Line) → Reading text table left number n
      → left ≡ line ∷ left' → LineAdded n table table' line (Err fault) → length text ≤ table_bytes
      → LinesRead text table' (Err (record { fault = fault; line = number }))
  unfolding table_of up_to
  line_faulty left left' number n table' fault line reading first added short =
      let said =
      short-text text (model.refused (fault_code fault) number) short
      (sym
      (sym reading.same
      ∙ ap (model.read_lines number (links_of n table)) first
      ∙ read_fault number (links_of n table) line left' (fault_code fault) (sym added.same))) in
      record { same = said; held = ap table_of said; kept = no-links table' added.kept.long }

  -- The number of links stored behind them makes the array hold them.
  pub links_counted : (r : Result ℕ Refusal) (verdict : Result Unit Refusal) (links : ℕ) → LinesRead text table r → verdict ≡ verdict_of r
      → links ≡ links_read r → TableFilled text verdict (set table count_position links)
  links_counted (Ok n) verdict links read e k =
      let counted = table_counted n table read.kept in
      rw (e, k)
      (record {
        same = ap model.accepted counted ∙ read.same;
        held = counted ∙ read.held;
        kept = counted-formed n table read.kept;
      })
  links_counted (Err refusal) verdict links read e k =
      let counted = table_counted 0 table read.kept in
      rw (e, k)
      (record {
        same = read.same;
        held = counted ∙ read.held;
        kept = counted-formed 0 table read.kept;
      })
