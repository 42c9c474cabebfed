-- What is claimed of a chain of calls holds: it follows the reference model step by step, and the rest is said of every state that
-- the model reaches; so is what the order of registrations doesn't change. A chain grows at its end by any call that is performed on the registry it left. Assumes nothing.
use Rattle.std.specs.Prelude.{ℕ, ◌≡◌, refl, ◌↔◌, List, [], ◌∷◌, ◌++◌, map, Result}
use Rattle.std.proofs.Common.{ap, sym, ◌∙◌, subst}
use Rattle.model.specs.Words.{All}
use Rattle.model.specs.Orders.{registering}
use Rattle.model.specs.Aggregates.{aggregate_at}
use Rattle.model.specs.Reference as model
use Rattle.model.specs.Reference.{State, Call, held_flows, call_order, opened, final}
use Rattle.model.specs.Outcomes.{NoRoom, Full}
use Rattle.model.proofs.Laws.Reference.{never-spoilt}
use Rattle.model.specs.AnyOrder.{AllAdmitted, HeldInTurn, SameFlows, InTurn, AnyOrder}
use Rattle.model.proofs.Results as results
use Rattle.model.proofs.Results.{reached-consistent, reached-timely, room-exactly}
use Rattle.queue_table.specs.View.{hop_at}
use Rattle.figures.specs.View.{figure_at}
use Rattle.causes.specs.declared.Cause.{Cause}
use Rattle.admission.specs.View.{answer_of}
use Rattle.registry.specs.declared.Registry.{Registry}
use Rattle.registry.specs.declared.Opened.{Opened}
use Rattle.registry.specs.declared.Called.{Called}
use Rattle.registry.specs.View.{state_in, Consistent, OpensOn, call_of, Performs}
use Rattle.registry.specs.Claim.{Chain, none, call, after, NotSpoilt, Claimed, InAnyOrder}

pub claim : (text : List ℕ) (o : Opened) → OpensOn text o → (calls : List Call) (answers : List (Result ℕ Cause)) (last : Registry)
    → Chain o.registry calls answers last
    → Claimed text calls answers last
unfolding model.answers final model.order_answers model.after_orders model.step
claim text o opens calls answers last chain =
    let (kept, answered, followed, never) = follows chain opens.is-consistent in
    let state : state_in last ≡ after text calls = followed ∙ ap (λ s. final s calls) opens.state in
    record {
      answered = answered ∙ ap (λ s. model.answers s calls) opens.state;
      state = state;
      figures = λ e h.
          subst (λ (s : State). figure_at last.figures e ≡ aggregate_at s.table (held_flows s.slots) (hop_at e)) state (kept.exact.same e h);
      timely = reached-timely text calls;
      room = λ bytes f called p e early.
          subst (λ a. NoRoom a.code ↔ Full (after text calls) f)
          (sym (p.answer kept ∙ ap (λ s. (model.step s (call_of registering bytes)).answer) state))
          (room-exactly (after text calls) (reached-consistent text calls) (call_of registering bytes) f e early);
      is-consistent = kept;
      never-spoilt = never;
      next-not-spoilt = λ c called p. not-spoilt p kept;
    }
  where
    not-spoilt : {before : Registry} {c : Call} {called : Called} → Performs before c called → Consistent before → NotSpoilt called.answer
    not-spoilt {before} {c} p k e = never-spoilt (state_in before) c (sym (ap (λ a. a.code) (p.answer k)) ∙ e)

    -- From any consistent registry: it stays so, and answers and state are the reference model's from the state it holds.
    follows : {first last : Registry} {calls : List Call} {answers : List (Result ℕ Cause)} → Chain first calls answers last → Consistent first
        → Consistent last
        × (map answer_of answers ≡ model.answers (state_in first) calls)
        × (state_in last ≡ final (state_in first) calls)
        × All NotSpoilt answers
    follows none k = (k, refl, refl, tt)
    follows (call {calls = calls} p more) k =
        let (kept, answered, state, never) = follows more (p.is-consistent k) in (
          kept,
          λ i. p.answer k i ∷ (answered ∙ ap (λ s. model.answers s calls) (p.next k)) i,
          state ∙ ap (λ s. final s calls) (p.next k),
          (not-spoilt p k, never),
        )

pub any_order : (text : List ℕ) (o : Opened) → OpensOn text o → (calls : List Call) (answers : List (Result ℕ Cause)) (last : Registry)
    → Chain o.registry calls answers last
    → AllAdmitted (map call_order calls) (map answer_of answers)
    → InAnyOrder text calls last
unfolding model.answers final
any_order text o opens calls answers last chain all =
    record {
      part = λ opens' chain' p. held opens' chain' (whole.part p);
      order = λ {o = o'} {other} {answers = answers'} {last'} opens' chain' p.
          let (turn, same) = whole.order p in
          let now = claim text o' opens' other answers' last' chain' in (
            held opens' chain' turn,
            subst (λ s. SameFlows s (state_in last)) (sym now.state) (subst (SameFlows (after text other)) (sym first.state) same),
            λ e h. now.figures e h ∙ same.figures (hop_at e) ∙ sym (first.figures e h),
          );
    }
  where
    first : Claimed text calls answers last
    first = claim text o opens calls answers last chain

    whole : AnyOrder call_order (opened text) calls
    whole = results.any_order text calls (subst (AllAdmitted (map call_order calls)) first.answered all)

    held : {o : Opened} {other : List Call} {answers : List (Result ℕ Cause)} {last : Registry} → OpensOn text o → Chain o.registry other answers last
        → InTurn call_order (opened text) other
        → HeldInTurn (map call_order other) (map answer_of answers) (state_in last)
    held {o} {other} {answers} {last} opens chain turn =
        let now = claim text o opens other answers last chain in
        subst (λ l. HeldInTurn (map call_order other) l (state_in last)) (sym now.answered)
        (subst (HeldInTurn (map call_order other) (model.answers (opened text) other)) (sym now.state) turn)

pub chain_next : {first last : Registry} {calls : List Call} {answers : List (Result ℕ Cause)} {c : Call} {called : Called}
    → Chain first calls answers last → Performs last c called
    → Chain first (calls ++ c ∷ []) (answers ++ called.answer ∷ []) called.registry
chain_next none p = call p none
chain_next (call q more) p = call q (chain_next more p)
