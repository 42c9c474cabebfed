-- The mission's third line over what the contracts promise: any table text, and any list of calls on the registry opened on it.
-- That it holds is `claim` in `ClaimLaws`. And what the order of registrations doesn't change (W-205).
use Rattle.std.specs.Prelude.{ℕ, ◌<◌, ◌≡◌, ◌↔◌, Result}
use mathlib.Core.List.{List, [], ◌∷◌, map, Permᴰ}
use Rattle.model.specs.Words.{All}
use Rattle.model.specs.Sizes.{queues_most}
use Rattle.model.specs.Orders.{Flow, register, registering}
use Rattle.model.specs.Aggregates.{aggregate_at}
use Rattle.model.specs.Reference as model
use Rattle.model.specs.Reference.{State, Call, held_flows, call_order, opened, final}
use Rattle.model.specs.Outcomes.{NoneApplies, early_findings, NoRoom, Full}
use Rattle.model.specs.Timely.{Timely}
use Rattle.model.specs.Part.{Part}
use Rattle.model.specs.AnyOrder.{HeldInTurn, SameFlows}
use Rattle.queue_table.specs.View.{hop_at}
use Rattle.figures.specs.View.{figure_at}
use Rattle.causes.specs.declared.Cause.{Cause}
use Rattle.registry.specs.declared.Registry.{Registry}
use Rattle.registry.specs.declared.Opened.{Opened}
use Rattle.registry.specs.declared.Called.{Called}
use Rattle.admission.specs.View.{answer_of}
use Rattle.registry.specs.View.{state_in, Consistent, OpensOn, call_of, Performs}

-- Call after call, each on the registry that the one before left, nobody else writing it.
pub data Chain : (first : Registry) (calls : List Call) (answers : List (Result ℕ Cause)) (last : Registry) → Type 0 where
  none : {r : Registry} → Chain r [] [] r
  call : {before last : Registry} {c : Call} {called : Called} {calls : List Call} {answers : List (Result ℕ Cause)}
      → Performs before c called
      → Chain called.registry calls answers last
      → Chain before (c ∷ calls) (called.answer ∷ answers) last

-- The reference model (document 01: the plain book) after these calls on this text, and its flows.
abbrev pub after : (text : List ℕ) (calls : List Call) → State
after text calls = final (opened text) calls

abbrev pub flows_after : (text : List ℕ) (calls : List Call) → List Flow
flows_after text calls = held_flows (after text calls).slots

-- Another code than 42, a registry that is not consistent (document 01: in order).
abbrev pub NotSpoilt : Result ℕ Cause → Type 0
NotSpoilt a = (answer_of a).code ≡ 42 → ⊥

-- What the mission's third line says after these calls on this text.
pub record Claimed (text : List ℕ) (calls : List Call) (answers : List (Result ℕ Cause)) (last : Registry) : Type 0 where
  -- All answers, the table and the flow at each slot, and every queue's figures are the reference model's.
  pub answered : map answer_of answers ≡ model.answers (opened text) calls
  pub state : state_in last ≡ after text calls
  pub figures : (e : ℕ) → e < queues_most → figure_at last.figures e ≡ aggregate_at (after text calls).table (flows_after text calls) (hop_at e)
  -- In any run of conforming sources, at any instant: no frame is late and no queue holds more than its buffer; a frame is never longer on its way than its
  -- path's thresholds and its deadline; none is lost.
  pub timely : Timely (after text calls).table (flows_after text calls)
  -- A further registration with none of the causes before 30 against it lacks room exactly when every slot is held or the hop entries don't suffice.
  pub room : (bytes : List ℕ) (f : Flow) (called : Called) → Performs last (call_of registering bytes) called
      → call_order (call_of registering bytes) ≡ register f → NoneApplies (early_findings (after text calls) f)
      → NoRoom (answer_of called.answer).code ↔ Full (after text calls) f
  -- The registry stays consistent: no call answers 42, nor does the next.
  pub is-consistent : Consistent last
  pub never-spoilt : All NotSpoilt answers
  pub next-not-spoilt : (c : Call) (called : Called) → Performs last c called → NotSpoilt called.answer

-- W-205, of calls on a registry opened on the text that were registrations, all admitted, and left `last`. That it holds is `any_order` in `ClaimLaws`.
pub record InAnyOrder (text : List ℕ) (calls : List Call) (last : Registry) : Type 0 where
  -- Every part of them, made in any order on any registry opened on the text, is admitted, and held in turn.
  pub part : {o : Opened} {other : List Call} {answers : List (Result ℕ Cause)} {last' : Registry} → OpensOn text o → Chain o.registry other answers last'
      → Part other calls
      → HeldInTurn (map call_order other) (map answer_of answers) (state_in last')
  -- So is every order of them all, which leaves the same flows and the same figures.
  pub order : {o : Opened} {other : List Call} {answers : List (Result ℕ Cause)} {last' : Registry} → OpensOn text o → Chain o.registry other answers last'
      → Permᴰ other calls
      → HeldInTurn (map call_order other) (map answer_of answers) (state_in last')
      × SameFlows (state_in last') (state_in last)
      × ((e : ℕ) → e < queues_most → figure_at last'.figures e ≡ figure_at last.figures e)
