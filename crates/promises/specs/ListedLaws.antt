-- The first line holds: of each answer by what the reference model answers, and of a call on a registry that isn't consistent by its 42.
-- Assumes nothing.
use Rattle.std.specs.Prelude.{ℕ, ◌≡◌, true}
use Rattle.std.proofs.Common.{ap, sym, subst, ◌∙◌, ⊎_elim}
use mathlib.Core.List.Memᴰ
use mathlib.Core.List.{List, [], ◌∷◌, Memᴰ}
use Rattle.std.proofs.Math.Decide.{ℕ_discrete}
use Rattle.model.specs.Columns.{Line, lines}
use Rattle.model.specs.QueueTable.{TableText}
use Rattle.model.specs.Orders.{order_line}
use Rattle.model.specs.Reference.{State, Answer, Call, call_order, apply, order_answers, opened, after_orders, final}
use Rattle.model.specs.Consistent.{consistent}
use Rattle.model.specs.Codes.{call_codes, Listed, TextListed, BatchListed}
use Rattle.model.specs.Batch.{Batch, line_answers}
use Rattle.model.proofs.Results as results
use Rattle.model.proofs.Results.{line-listed, line-consistent, text-listed, reached-consistent}
use Rattle.model.proofs.Laws.Decided.{listed-code}
use Rattle.model.proofs.Laws.Codes.{text-code, batch-code}
use Rattle.queue_table.specs.View.{table_of, text_of}
use Rattle.admission.specs.View.{answer_of}
use Rattle.batch.specs.declared.BatchResult.{BatchResult}
use Rattle.batch.specs.View.{Batched}
use Rattle.batch.specs.ClaimLaws.{claim}
use Rattle.registry.specs.declared.Registry.{Registry}
use Rattle.registry.specs.declared.Opened.{Opened}
use Rattle.registry.specs.declared.Called.{Called}
use Rattle.registry.specs.View.{state_in, Consistent, OpensOn, Performs}
use Rattle.registry.specs.DecisionLaws.{decision}
use Rattle.promises.specs.Listed.{OpenListed, CallListed, LinesListed, end, line, BatchAnswers}

pub open-listed : (text : List ℕ) (o : Opened) → OpensOn text o → OpenListed text o
open-listed text o opens =
    let read : TableText = text_of o.verdict (table_of o.registry.table) in
    let listed : TextListed text read = subst (TextListed text) (sym opens.verdict) (text-listed text) in
    record { code = text-code text read listed; listed = listed }

-- Whether a number stands in a list.
stands : (n : ℕ) (l : List ℕ) → Dec (Memᴰ n l)
stands n [] = no (Memᴰ.not-nil)
stands n (m ∷ l) = go (ℕ_discrete n m) (stands n l)
  where
    go : Dec (n ≡ m) → Dec (Memᴰ n l) → Dec (Memᴰ n (m ∷ l))
    go (yes e) d = yes (Memᴰ.head e)
    go (no e) (yes m) = yes (Memᴰ.tail m)
    go (no e) (no d) = no (λ m. ⊎_elim e d (Memᴰ.cases_cons m))

pub call-listed : (before : Registry) (c : Call) (called : Called) → Performs before c called → CallListed before c called
call-listed before c called p =
    record {
      code = go (stands (answer_of called.answer).code call_codes);
      listed = listed;
      unchanged = λ kept other.
          let d = decision kept p in ((d.decided.refused other).next, d.figures other);
      spoilt = spoilt;
    }
  where
    listed : Consistent before → Listed (state_in before) (call_order c) (answer_of called.answer)
    listed kept = subst (Listed (state_in before) (call_order c)) (sym (p.answer kept)) (results.call-listed (state_in before) kept.is-consistent c)

    spoilt : (Consistent before → ⊥) → (answer_of called.answer ≡ record { code = 42; slot = 0; link = 0; level = 0 }) × (called.registry ≡ before)
    spoilt other = let (answer, same) = p.inconsistent other in (ap answer_of answer, same)

    go : Dec (Memᴰ (answer_of called.answer).code call_codes) → Memᴰ (answer_of called.answer).code call_codes
    go (yes m) = m
    go (no d) =
        absurd (d (Memᴰ.head (ap (λ (a : Answer). a.code) (spoilt (λ kept. d (Memᴰ.tail (listed-code _ _ _ (listed kept))))).0)))

lines-listed : (s : State) → consistent s ≡ true → (ls : List Line) → LinesListed s ls (line_answers s ls)
unfolding line_answers order_answers
lines-listed s ok [] = end
lines-listed s ok (l ∷ ls) =
    let listed = line-listed s ok l in
    line (listed-code s (order_line l) _ listed) listed (lines-listed (apply s (order_line l)).next (line-consistent s ok l) ls)

pub batch-listed : (table orders area area' : List ℕ) (r : BatchResult) → Batched table orders area area' r → BatchAnswers table orders area area' r
unfolding final after_orders
batch-listed table orders area area' r batched =
    let (listed, unwritten) = results.batch-listed table orders area in
    let returned : BatchListed table orders r.code r.line =
    subst (λ (b : Batch). BatchListed table orders b.code b.line) (sym batched) listed in
    record {
      code = batch-code table orders _ _ returned;
      listed = returned;
      unwritten = λ other. ap (λ (b : Batch). b.area) batched ∙ unwritten (λ z. other (ap (λ (b : Batch). b.code) batched ∙ z));
      written = λ z. (claim batched z).written;
      lines-listed = lines-listed (opened table) (reached-consistent table []) (lines orders);
    }
