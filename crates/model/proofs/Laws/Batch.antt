-- A batch on an accepted table is done exactly when neither 41 nor 40 is against it; where lines that register flows fit, a part of them does. Its text of answers shows
-- where their codes are 0. Test by test, and by induction on the texts. Assumes nothing.
use Rattle.std.specs.Prelude.{ℕ, suc, ◌*◌, ◌≤◌, ◌≡◌, Bool, cond, List, [], ◌∷◌, ◌++◌, length, eqb, ltb}
use Rattle.std.proofs.Math.Path.{refl}
use Rattle.std.proofs.Common.{ap, sym, subst, ◌∙◌, append_assoc, arith}
use Rattle.std.proofs.Math.Bool.{true, false}
use borrow.Author.Tests.{ltb-false, le-ltb}
use Rattle.model.specs.Words.{All}
use Rattle.model.specs.Sizes.{order_bytes, order_lines, answer_bytes}
use Rattle.model.specs.Total.{total}
use Rattle.model.specs.Part.{Part}
use Rattle.model.proofs.Laws.Part.{length_part, all-part}
use Rattle.model.proofs.Laws.Total.{total-part}
use Rattle.model.proofs.Laws.All.{all-imp}
use Rattle.model.proofs.Laws.Test.{or-neither}
use Rattle.model.specs.Columns.{Line, ended, unended, prepend, lines}
use Rattle.model.specs.QueueTable.{Table, TableText, accepted, read_table}
use Rattle.model.specs.Orders.{Flow, Order, register, release, change, rejected, order_line}
use Rattle.model.specs.Reference.{State, Answer, apply, order_answers, opened}
use Rattle.model.specs.Answers.{answer_line}
use Rattle.model.proofs.Laws.Answers.{line-length, joined_same, zero-shown}
use Rattle.model.specs.Batch.{answer_text, refused_batch, done_batch, too_long, too_short, after_table, batch}
use Rattle.model.proofs.Laws.Codes.{returned-done}

-- Neither 41 nor 40.
pub record Fits (orders area : List ℕ) : Type 0 where
  pub bytes : length orders ≤ order_bytes
  pub few : length (lines orders) ≤ order_lines
  pub room : answer_bytes * length (lines orders) ≤ length area

module _ (table orders area : List ℕ) where
  pub done-fits : (batch table orders area).code ≡ 0 → Fits orders area
  unfolding batch after_table refused_batch too_long too_short
  done-fits z =
      let (t, read, done) = returned-done table orders area z in
      go (too_long orders) (too_short orders area) refl refl (subst (λ (r : TableText). (after_table r (opened table) orders area).code ≡ 0) read z)
    where
      go : (long short : Bool) → too_long orders ≡ long → too_short orders area ≡ short
          → (cond long (refused_batch 41 0 area) (cond short (refused_batch 40 0 area) (done_batch (opened table) (lines orders) area))).code ≡ 0
          → Fits orders area
      go true short e₁ e₂ z = absurd (omega arith)
      go false true e₁ e₂ z = absurd (omega arith)
      go false false e₁ e₂ z =
          let (bytes, few) = or-neither (ltb order_bytes (length orders)) (ltb order_lines (length (lines orders))) e₁ in
          record { bytes = ltb-false _ _ bytes; few = ltb-false _ _ few; room = ltb-false _ _ e₂ }

  pub fits-done : {t : Table} → read_table table ≡ accepted t → Fits orders area → batch table orders area ≡ done_batch (opened table) (lines orders) area
  unfolding batch after_table too_long too_short
  fits-done read f = rw (read, le-ltb _ _ f.bytes, le-ltb _ _ f.few, le-ltb _ _ f.room)

-- A line's bytes with its LF.
unfoldable pub line_bytes : Line → ℕ
line_bytes (ended bs) = suc (length bs)
line_bytes unended = 0

abbrev Ended : Line → Type 0
Ended (ended bs) = Unit {0}
Ended unended = ⊥

text-length : (text : List ℕ) → All Ended (lines text) → length text ≡ total line_bytes (lines text)
unfolding lines prepend total line_bytes
text-length [] a = refl
text-length (b ∷ bs) a = go (eqb b 10) (lines bs) (text-length bs) a
  where
    go : (lf : Bool) (ls : List Line) → (All Ended ls → length bs ≡ total line_bytes ls)
        → All Ended (cond lf (ended [] ∷ ls) (prepend b ls))
        → suc (length bs) ≡ total line_bytes (cond lf (ended [] ∷ ls) (prepend b ls))
    go true ls r a = omega (arith, r a.1)
    go false [] r a = absurd a.0
    go false (ended l ∷ ls) r a = omega (arith, r (tt, a.1))
    go false (unended ∷ ls) r a = absurd a.0

-- Whether they all end in LF or not, lines have no more bytes than the text.
pub lines-within : (text : List ℕ) → total line_bytes (lines text) ≤ length text
unfolding lines prepend total line_bytes
lines-within [] = omega arith
lines-within (b ∷ bs) = go (eqb b 10) (lines bs) (lines-within bs)
  where
    go : (lf : Bool) (ls : List Line) → total line_bytes ls ≤ length bs → total line_bytes (cond lf (ended [] ∷ ls) (prepend b ls)) ≤ suc (length bs)
    go true ls r = omega (arith, r)
    go false [] r = omega arith
    go false (ended l ∷ ls) r = omega (arith, r)
    go false (unended ∷ ls) r = omega (arith, r)

-- A line that registers a flow ends in LF.
registered-ended : (l : Line) (f : Flow) → order_line l ≡ register f → Ended l
unfolding order_line
registered-ended (ended bs) f e = tt
registered-ended unended f e = subst Registered (sym e) tt
  where
    Registered : Order → Type 0
    Registered (register f) = Unit {0}
    Registered (release n) = ⊥
    Registered (change c) = ⊥
    Registered (rejected code) = ⊥

-- So a part of such lines makes no longer text, and fits where its own answers do.
pub part-fits : {orders area orders₁ area₁ : List ℕ} → All (λ l. (f : Flow) × (order_line l ≡ register f)) (lines orders) → Fits orders area
    → answer_bytes * length (lines orders₁) ≤ length area₁
    → Part (lines orders₁) (lines orders)
    → Fits orders₁ area₁
part-fits {orders} {orders₁ = orders₁} all fits long p =
    let ends : All Ended (lines orders) = all-imp (lines orders) (λ l r. registered-ended l r.0 r.1) all in
    record {
      bytes = omega (arith, fits.bytes, text-length orders ends, text-length orders₁ (all-part Ended p ends), total-part line_bytes p);
      few = omega (arith, fits.few, length_part p);
      room = long;
    }

pub answers-counted : (s : State) (os : List Order) → length (order_answers s os) ≡ length os
unfolding order_answers
answers-counted s [] = refl
answers-counted s (o ∷ os) = ap suc (answers-counted (apply s o).next os)

-- Where an area holds as many answers that are all 0, the answers are.
pub zeros-shown : (number : ℕ) (l m : List Answer) (rest rest' : List ℕ) → length l ≡ length m → answer_text number l ++ rest ≡ answer_text number m ++ rest'
    → All (λ a. a.code ≡ 0) m
    → All (λ a. a.code ≡ 0) l
unfolding answer_text
zeros-shown number [] m rest rest' long e z = tt
zeros-shown number (a ∷ l) [] rest rest' long e z = absurd (omega arith)
zeros-shown number (a ∷ l) (b ∷ m) rest rest' long e z =
    let joined = sym (append_assoc (answer_line number a) (answer_text (suc number) l) rest) ∙ e ∙ append_assoc (answer_line number b) (answer_text (suc number) m) rest' in
    let (first, later) = joined_same (answer_line number a) (answer_line number b) 20 (line-length number a) (line-length number b) joined in
    let fewer : length l ≡ length m = omega (arith, long) in
    (zero-shown number a b first z.0, zeros-shown (suc number) l m rest rest' fewer later z.1)
