-- There are at most as many answers as the area has room for.
use Rattle.std.proofs.Common.{◌*◌, arith, sym}
use Rattle.std.proofs.lemmas.List.{length-take-le}
use Rattle.recording.specs.Replay.{call_answer_bytes, answers_most}
use Rattle.recording.proofs.ReplayLaws.{count_fits, under-zeros}
use Rattle.replay.proofs.replay.Goals as goal

pub overflow_mul-end : goal.overflow_mul-end
overflow_mul-end g c =
    let few = under-zeros answers_most (call_answer_bytes * c.replay-replayed.result.count) (count_fits c.replay-replayed.ensures) in omega (arith, few)

pub slice_bounds-answers-end : goal.slice_bounds-answers-end
slice_bounds-answers-end g c =
    let few = under-zeros answers_most (call_answer_bytes * c.replay-replayed.result.count) (count_fits c.replay-replayed.ensures) in
    omega (arith, few, c.replay-replayed.auto.answers)

pub slice_bounds-show-end : goal.slice_bounds-show-end
slice_bounds-show-end g c =
    let few = under-zeros answers_most (call_answer_bytes * c.replay-replayed.result.count) (count_fits c.replay-replayed.ensures) in
    sym (length-take-le (14 * c.replay-replayed.result.count) c.replay-replayed.new.answers (omega (arith, few, c.replay-replayed.auto.answers)))
