-- `recording::run` meets its contract. The invariant: the calls made so far, before those that are left, are all of the list.
use Rattle.recording.proofs.RunLaws.{Going}
use Rattle.recording.proofs.run.Given as goal

abbrev pub invariant-loop-count : goal.invariant-loop-count
invariant-loop-count g l = Going l.initial.registry l.calls l.initial.answers l.most l.registry l.at l.count l.answers
