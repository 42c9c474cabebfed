-- The table stays through all calls, so that the registry left behind still holds the one that the verdict speaks of. Assumes nothing.
use Rattle.std.specs.Prelude.{Result, Ok, Err}
use Prim.Native.Nat.{ℕ, zero, suc, ◌+◌, ◌*◌, ◌/◌, ◌≤◌}
use mathlib.Core.Path.{◌≡◌, refl, sym, ap, subst, ◌∙◌}
use mathlib.Core.List.{List, [], ◌∷◌}
use mathlib.Core.Option.{Option, none, some}
use native.Mathlib.Omega.{arith}
use lib.ListN.{length, drop, replicate, length-replicate}
use Rattle.model.specs.QueueTable.{Table, read_table, accepted}
use Rattle.model.specs.Reference as model
use Rattle.model.specs.Reference.{State, Call, call_order, step, opened, after_orders, final}
use Rattle.model.proofs.Laws.Reference.{same-table}
use Rattle.queue_table.specs.declared.Refusal.{Refusal}
use Rattle.queue_table.specs.View.{table_of, text_of}
use Rattle.registry.specs.declared.Registry.{Registry}
use Rattle.registry.specs.View.{state_in}
use Rattle.recording.specs.Calls.{header_bytes, first_call, listed, calls_in}
use Rattle.recording.specs.Replay.{call_answer_bytes, made_calls, Replays}
use Rattle.recording.specs.declared.Replayed.{Replayed}

final-table : (s : State) (calls : List Call) → (final s calls).table ≡ s.table
unfolding final after_orders step
final-table s [] = refl
final-table s (c ∷ calls) = final-table (step s c).next calls ∙ same-table s (call_order c)

-- No call changes the table, so the verdict says of the registry left behind what it said of the one opened.
pub same-verdict : (text : List ℕ) (calls : List Call) (v : Result (Unit {0}) Refusal) (t : Table) (last : Registry)
    → text_of v t ≡ read_table text → state_in last ≡ final (opened text) calls
    → text_of v (table_of last.table) ≡ read_table text
unfolding opened model.table_of
same-verdict text calls (Err refusal) t last read held = read
same-verdict text calls (Ok nothing) t last read held =
    ap accepted (ap (λ (s : State). s.table) held ∙ final-table (opened text) calls ∙ ap model.table_of (sym read)) ∙ read

-- No more calls are made than the area has room to answer.
few-listed : (n : ℕ) (o : Option Call) (more : Call → List Call) → ((c : Call) → length (more c) ≤ n) → length (listed o more) ≤ suc n
few-listed n none more h = omega arith
few-listed n (some c) more h = omega (arith, h c)

few-made : (most : ℕ) (bytes : List ℕ) → length (calls_in most bytes) ≤ most
unfolding calls_in
few-made zero bytes = omega arith
few-made (suc n) bytes = few-listed n (first_call bytes) _ (λ c. few-made n (drop (header_bytes + length c.bytes) bytes))

pub count_fits : {table calls area area' : List ℕ} {r : Replayed} → Replays table calls area area' r → call_answer_bytes * r.count ≤ length area
unfolding made_calls
count_fits {calls = calls} {area = area} p = omega (arith, p.count, few-made (length area / call_answer_bytes) calls)

-- What lies in an area of so many zeros, for the programs' areas: their size isn't worked out.
pub under-zeros : (n k : ℕ) → k ≤ length {A = ℕ} (replicate n 0) → k ≤ n
under-zeros n k h = subst (λ (m : ℕ). k ≤ m) (length-replicate {A = ℕ} n 0) h
