-- What is claimed of an accepted batch holds: line by line the state stays consistent, and the rest is said of every consistent state. Another order of its lines is answered
-- by what the model says of it, since the area shows its answers.
-- Assumes nothing.
use Rattle.std.specs.Prelude.{ℕ, ◌*◌, ◌≤◌, ◌≡◌, true, length, drop}
use Rattle.std.proofs.Common.{ap, sym, ◌∙◌, arith}
use mathlib.Core.List.Permᴰ
use mathlib.Core.List.{List, [], ◌∷◌, ◌++◌, map, Permᴰ}
use Rattle.std.proofs.lemmas.List.{length-map}
use Rattle.model.specs.Sizes.{answer_bytes}
use Rattle.model.specs.Part.{Part}
use Rattle.model.proofs.Laws.Part.{part-refl, perm-part, length_part}
use Rattle.model.proofs.Laws.All.{all_map}
use Rattle.model.specs.Columns.{Line, lines}
use Rattle.model.specs.Orders.{Flow, register, order_line}
use Rattle.model.specs.Reference.{State, Answer, apply, order_answers, opened, after_orders, final}
use Rattle.model.specs.Consistent.{consistent}
use Rattle.model.specs.Batch.{Batch, line_answers, answer_text, done_batch}
use Rattle.model.specs.AnyOrder.{slots_from, AnyOrder}
use Rattle.model.proofs.Laws.Codes.{returned-done}
use Rattle.model.proofs.Laws.Batch.{Fits, done-fits, fits-done, part-fits, answers-counted, zeros-shown}
use Rattle.model.proofs.Results.{line-decided, line-consistent, no-frame-late, reached-consistent, any-order-lines}
use Rattle.batch.specs.declared.BatchResult.{BatchResult}
use Rattle.batch.specs.View.{Batched}
use Rattle.batch.specs.Claim.{Sound, LineByLine, end, line, Claimed, ShownAdmitted, AnsweredInTurn, InAnyOrder}

sound : (s : State) → consistent s ≡ true → Sound s
sound s ok = record { is-consistent = ok; timely = no-frame-late s ok }

line-by-line : (s : State) → consistent s ≡ true → (ls : List Line) → LineByLine s ls (line_answers s ls)
unfolding line_answers order_answers
line-by-line s ok [] = end (sound s ok)
line-by-line s ok (l ∷ ls) =
    line (sound s ok) (line-decided s ok l) (line-by-line (apply s (order_line l)).next (line-consistent s ok l) ls)

pub claim : {table orders area area' : List ℕ} {r : BatchResult} → Batched table orders area area' r → r.code ≡ 0
    → Claimed table orders area area' r
unfolding done_batch final after_orders
claim {table} {orders} {area} batched z =
    let (links, read, done) = returned-done table orders area (sym (ap (λ (b : Batch). b.code) batched) ∙ z) in
    record {
      links = links;
      read = read;
      count = ap (λ (b : Batch). b.line) (batched ∙ done);
      written = ap (λ (b : Batch). b.area) (batched ∙ done);
      each = line-by-line (opened table) (reached-consistent table []) (lines orders);
    }

pub any_order : {table orders area area' : List ℕ} {r : BatchResult} → Batched table orders area area' r → r.code ≡ 0
    → ShownAdmitted orders area'
    → InAnyOrder table orders area area' r
unfolding done_batch line_answers
any_order {table} {orders} {area} {area'} {r} batched z admitted =
    record { part = part; order = order; held = whole }
  where
    claimed : Claimed table orders area area' r
    claimed = claim batched z

    whole : AnyOrder order_line (opened table) (lines orders)
    whole =
        any-order-lines table (lines orders)
        (record {
          registrations = admitted.all.registrations;
          admitted =
              zeros-shown 1 (line_answers (opened table) (lines orders)) admitted.answers (drop (answer_bytes * length (lines orders)) area) admitted.rest
              (answers-counted (opened table) (map order_line (lines orders)) ∙ length-map (lines orders) order_line ∙ sym admitted.each)
              (sym claimed.written ∙ admitted.shown)
              admitted.all.admitted;
        })

    fits : Fits orders area
    fits = done-fits table orders area (sym (ap (λ (b : Batch). b.code) batched) ∙ z)

    part : (orders₁ area₁ area₁' : List ℕ) (r₁ : BatchResult) → Batched table orders₁ area₁ area₁' r₁
        → answer_bytes * length (lines orders₁) ≤ length area₁
        → Part (lines orders₁) (lines orders)
        → AnsweredInTurn orders₁ area₁ area₁' r₁
    part orders₁ area₁ area₁' r₁ batched₁ long p =
        let all = all_map (λ o. (f : Flow) × (o ≡ register f)) order_line (lines orders) admitted.all.registrations in
        let done = batched₁ ∙ fits-done table orders₁ area₁ claimed.read (part-fits all fits long p) in
        let answered = (whole.part p).answered ∙ ap (slots_from 1) (length-map (lines orders₁) order_line) in
        record {
          code = ap (λ (b : Batch). b.code) done;
          count = ap (λ (b : Batch). b.line) done;
          written =
              ap (λ (b : Batch). b.area) done ∙ ap (λ (l : List Answer). answer_text 1 l ++ drop (answer_bytes * length (lines orders₁)) area₁) answered;
        }

    order : (orders₁ area₁' : List ℕ) (r₁ : BatchResult) → Batched table orders₁ area area₁' r₁ → Permᴰ (lines orders₁) (lines orders)
        → (r₁ ≡ r) × (area₁' ≡ area')
    order orders₁ area₁' r₁ batched₁ p =
        let long : length (lines orders₁) ≡ length (lines orders) = omega (arith, length_part (perm-part p), length_part (perm-part (Permᴰ.symm p))) in
        let first = part orders area area' r batched fits.room (part-refl (lines orders)) in
        let other = part orders₁ area area₁' r₁ batched₁ (omega (arith, fits.room, long)) (perm-part p) in (
          λ i. record { code = (other.code ∙ sym first.code) i; line = (other.count ∙ long ∙ sym first.count) i },
          other.written ∙ ap (λ n. answer_text 1 (slots_from 1 n) ++ drop (answer_bytes * n) area) long ∙ sym first.written,
        )
