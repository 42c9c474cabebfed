-- The mission's second line over what the contracts promise: any consistent registry, whether calls led to it or not, and any call on it.
-- That it holds is `decision` in `DecisionLaws`.
use Rattle.std.specs.Prelude.{ℕ, ◌<◌, ◌≡◌}
use Rattle.model.specs.Sizes.{queues_most}
use Rattle.model.specs.Reference.{Call, Outcome, call_order}
use Rattle.model.specs.Outcomes.{Decided}
use Rattle.figures.specs.View.{figure_at}
use Rattle.admission.specs.View.{answer_of}
use Rattle.registry.specs.declared.Registry.{Registry}
use Rattle.registry.specs.declared.Called.{Called}
use Rattle.registry.specs.View.{state_in, Consistent}

-- What a call gives back, in the terms of the model.
abbrev pub outcome_of : Called → Outcome
outcome_of called = record { answer = answer_of called.answer; next = state_in called.registry }

-- What the mission's second line says of a call on a registry.
pub record CallDecided (before : Registry) (c : Call) (called : Called) : Type 0 where
  -- A registration with none of the causes of a line and of room against it answers 0 exactly when the threshold-based model admits it, with one of them
  -- never; a release exactly when its flow is held; a change exactly when it is and the held flows, with this one so changed, are consistent. Another code is
  -- the cause that comes first, and the state is as before. An admission sets one slot, the lowest free one, to the flow of the line; a release empties one
  -- slot, that of the named flow; a change gives the flow there the rate and burst of the line: `Decided` has each as an equation between states.
  pub decided : Decided (state_in before) (call_order c) (outcome_of called)
  -- No call changes the table's array, and a refused one no figure.
  pub table : called.registry.table ≡ before.table
  pub figures : ((answer_of called.answer).code ≡ 0 → ⊥) → (e : ℕ) → e < queues_most → figure_at called.registry.figures e ≡ figure_at before.figures e
  -- The registry is consistent again.
  pub is-consistent : Consistent called.registry
