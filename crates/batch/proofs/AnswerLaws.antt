-- One order line more is answered: what the rest says, and where its bytes stand.
-- Assumes nothing.
use Prim.Native.Nat.{ℕ, suc, ◌+◌, ◌*◌, ◌≤◌}
use mathlib.Core.Path.{◌≡◌, refl, sym, ap, ap₂, ◌∙◌}
use mathlib.Core.List.{List, [], ◌∷◌, ◌++◌}
use native.Mathlib.Omega.{arith}
use lib.ListN.{length, take, drop, take-append-drop}
use Rattle.columns.proofs.PartLaws.{text-length, text-next}
use Rattle.model.specs.Sizes.{order_lines, answer_bytes}
use Rattle.model.specs.Columns.{Line, lines}
use Rattle.model.specs.Orders.{order_line}
use Rattle.model.specs.Reference as reference
use Rattle.model.specs.Answers.{answer_line}
use Rattle.model.proofs.Laws.Answers.{line-length}
use Rattle.model.specs.Batch.{line_answers, answer_text, done_batch}
use Rattle.std.specs.Prelude.{Result}
use Rattle.causes.specs.declared.Cause.{Cause}
use Rattle.admission.specs.View.{state_of, answer_of, ConsistentArrays, Stepped}
use Rattle.batch.specs.View.{LineDone, Answerable}

-- A line was carried out.
module _ (table bits store bits' store' figures' : List ℕ) (a : Result ℕ Cause) (l : Line)
    (stepped : Stepped (order_line l) table bits store bits' store' figures' a) where
  pub line-done : LineDone l table bits store bits' store' figures' a
  unfolding line_answers reference.order_answers
  line-done =
      record {
        same = λ left. ap₂ (λ (x : reference.Answer) (s : reference.State). x ∷ line_answers s left) (sym stepped.answer) (sym stepped.next);
        kept = stepped.kept;
      }

-- What holds before each order line: `whole` is the area in the end. The lines left are answered from `offset` on.
pub record Answering (whole : List ℕ) (left : List Line) (table bits store figures : List ℕ) (size : ℕ) (area : List ℕ) (number offset : ℕ) : Type 0 where
  pub kept : ConsistentArrays table bits store figures
  pub same_size : length area ≡ size
  pub placed : offset ≡ answer_bytes * number
  pub few : number + length left ≤ order_lines
  pub room : answer_bytes * (number + length left) ≤ length area
  pub same :
      take offset area
      ++ (answer_text (number + 1) (line_answers (state_of table bits store) left)
      ++ drop (answer_bytes * (number + length left)) area)
      ≡ whole

answer-next : (number : ℕ) (a : reference.Answer) (more : List reference.Answer) → answer_text number (a ∷ more) ≡ answer_line number a ++ answer_text (number + 1) more
unfolding answer_text
answer-next number a more =
    let e : suc number ≡ number + 1 = omega arith in
    ap (λ (k : ℕ). answer_line number a ++ answer_text k more) e

pub answering-first : (orders : List ℕ) (left : List Line) (table bits store figures area : List ℕ) → left ≡ lines orders
    → ConsistentArrays table bits store figures → Answerable orders area
    → Answering (done_batch (state_of table bits store) (lines orders) area).area left table bits store figures (length area) area 0 0
unfolding done_batch
answering-first orders left table bits store figures area all kept room =
    let none_done : 0 + length (lines orders) ≡ length (lines orders) = omega arith in
    rw all
    (record {
      kept = kept;
      same_size = refl;
      placed = refl;
      few = rw none_done room.few;
      room = rw none_done room.long;
      same = ap (λ (k : ℕ). answer_text 1 (line_answers (state_of table bits store) (lines orders)) ++ drop (answer_bytes * k) area) none_done;
    })

module _ {whole : List ℕ} {left : List Line} {table bits store figures : List ℕ} {size : ℕ} {area : List ℕ} {number offset : ℕ}
    (now : Answering whole left table bits store figures size area number offset) where
  module _ {line : Line} {left' : List Line} (first : left ≡ line ∷ left') where
    counted : length left ≡ suc (length left')
    counted = ap (length {A = Line}) first

    -- There is room for a line where one is left.
    pub room-left : (offset + answer_bytes ≤ length area) × (number + 1 ≤ order_lines)
    room-left = (omega (arith, now.room, now.placed, counted), omega (arith, now.few, counted))

    pub answering-next : {bits' store' figures' : List ℕ} {r : Result ℕ Cause} → LineDone line table bits store bits' store' figures' r → (area' : List ℕ)
        → area' ≡ take offset area ++ (answer_line (number + 1) (answer_of r) ++ drop (offset + answer_bytes) area)
        → Answering whole left' table bits' store' figures' size area' (number + 1) (offset + answer_bytes)
    answering-next {bits'} {store'} {figures'} {r} done area' is =
        let a = answer_of r in
        let said = answer_line (number + 1) a in
        let rest = line_answers (state_of table bits' store') left' in
        let m = length left' in
        let long = line-length (number + 1) a in
        let answers : line_answers (state_of table bits store) left ≡ a ∷ rest = ap (line_answers (state_of table bits store)) first ∙ done.same left' in
        let ends : number + length left ≡ number + 1 + m = omega (arith, counted) in
        let size_same : length area' ≡ length area = ap length is ∙ text-length area said offset answer_bytes room-left.0 long in
        let end-in : answer_bytes * (number + 1 + m) ≤ length area = omega (arith, now.room, counted) in
        let end_after : offset + answer_bytes ≤ answer_bytes * (number + 1 + m) = omega (arith, now.placed) in
        record {
          kept = done.kept;
          same_size = size_same ∙ now.same_size;
          placed = omega (arith, now.placed);
          few = omega (arith, now.few, counted);
          room = rw size_same end-in;
          same =
              ap (λ (l : List ℕ). take (offset + answer_bytes) l ++ (answer_text (number + 1 + 1) rest ++ drop (answer_bytes * (number + 1 + m)) l)) is
              ∙ text-next area said offset answer_bytes room-left.0 long (answer_text (number + 1 + 1) rest) (answer_bytes * (number + 1 + m)) end_after
              ∙ ap (λ (t : List ℕ). take offset area ++ (t ++ drop (answer_bytes * (number + 1 + m)) area)) (sym (answer-next (number + 1) a rest))
              ∙ ap₂ (λ (as' : List reference.Answer) (k : ℕ). take offset area ++ (answer_text (number + 1) as' ++ drop (answer_bytes * k) area)) (sym answers) (sym ends)
              ∙ now.same;
        }

  pub answering-last : left ≡ [] → area ≡ whole
  unfolding line_answers reference.order_answers answer_text
  answering-last end =
      let all_done : offset ≡ answer_bytes * (number + 0) = omega (arith, now.placed) in
      sym (take-append-drop offset area)
      ∙ ap (λ (k : ℕ). take offset area ++ drop k area) all_done
      ∙ ap
      (λ (ls : List Line). take offset area ++ (answer_text (number + 1) (line_answers (state_of table bits store) ls) ++ drop (answer_bytes * (number + length ls)) area))
      (sym end)
      ∙ now.same
