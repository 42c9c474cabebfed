-- A gate and its answers in the terms of the model.
use Rattle.std.specs.Prelude.{◌≡◌, ℕ}
use Rattle.model.specs.Gate as model
use Rattle.sender_gate.specs.declared.Gate.{Gate}
use Rattle.sender_gate.specs.declared.GateAnswer.{GateAnswer}
use Rattle.sender_gate.specs.declared.Outcome.{Outcome}
use Rattle.sender_gate.specs.declared.Outcome.TheVariants.{Done, Dropped, FrameOutOfRange, GateOutOfRange}

abbrev pub gate_of : Gate → model.Gate
gate_of g = record { rate = g.rate.0; burst = g.burst.0; frame = g.frame.0; tokens = g.tokens.0; reading = g.reading }

abbrev pub code_of : Outcome → ℕ
code_of Done = 0
code_of Dropped = 1
code_of FrameOutOfRange = 60
code_of GateOutOfRange = 61

abbrev pub answer_of : GateAnswer → model.GateAnswer
answer_of a = record { code = a.code; gate = gate_of a.gate }

-- What opening a gate and offering a frame to it promise: the model's answer.
abbrev pub Opens : (rate burst frame now : ℕ) → GateAnswer → Type 0
Opens rate burst frame now a = answer_of a ≡ model.open_gate rate burst frame now

abbrev pub Offers : Gate → (length now : ℕ) → GateAnswer → Type 0
Offers g length now a = answer_of a ≡ model.offer (gate_of g) length now
