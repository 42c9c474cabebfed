-- What a call promises is the reference model's step, of which the second line was shown; the figures are those of the flows before and after.
-- Assumes nothing.
use Rattle.std.specs.Prelude.{◌≡◌}
use Rattle.std.proofs.Common.{ap, sym, subst, ◌∙◌}
use Rattle.model.specs.Aggregates.{aggregate_at}
use Rattle.model.specs.Reference.{State, Call, held_flows, call_order, step}
use Rattle.model.specs.Outcomes.{Decided}
use Rattle.model.proofs.Results.{call-decided}
use Rattle.queue_table.specs.View.{hop_at}
use Rattle.registry.specs.declared.Registry.{Registry}
use Rattle.registry.specs.declared.Called.{Called}
use Rattle.registry.specs.View.{state_in, Consistent, Performs}
use Rattle.registry.specs.Decision.{outcome_of, CallDecided}

module _ {before : Registry} (kept : Consistent before) {c : Call} {called : Called} (p : Performs before c called) where
  pub stepped : step (state_in before) c ≡ outcome_of called
  stepped i = record { answer = sym (p.answer kept) i; next = sym (p.next kept) i }

  decided : Decided (state_in before) (call_order c) (outcome_of called)
  decided = subst (Decided (state_in before) (call_order c)) stepped (call-decided (state_in before) kept.is-consistent c)

  pub decision : CallDecided before c called
  decision =
      record {
        decided = decided;
        table = p.table;
        figures = λ refused e lt.
            let same : state_in called.registry ≡ state_in before = (decided.refused refused).next in
            (p.is-consistent kept).exact.same e lt
            ∙ ap (λ (s : State). aggregate_at s.table (held_flows s.slots) (hop_at e)) same
            ∙ sym (kept.exact.same e lt);
        is-consistent = p.is-consistent kept;
      }
