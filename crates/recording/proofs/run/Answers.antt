-- `recording::run` meets its contract: what `Going` says at the start, of one call more, and where no call is left.
use Prim.Native.Nat.{ℕ, ◌/◌}
use mathlib.Core.Path.{◌≡◌, subst}
use native.Mathlib.Omega.{arith}
use lib.ListN.{length}
use Rattle.recording.specs.Replay.{call_answer_bytes, Runs}
use Rattle.recording.proofs.RunLaws.{going-first, going_next, full, broken, ran}
use Rattle.recording.proofs.run.Goals as goal

pub loop-count-init : goal.loop-count-init
loop-count-init g c = going-first _ _ _ _

pub returns-in_default : goal.returns-in_default
returns-in_default g c =
    let going = c.loop-count.invariant in
    ran going (broken going c.loop-count-test.true c.in_default.ensures)

pub loop-count-preserved : goal.loop-count-preserved
loop-count-preserved g c =
    let l = c.loop-count in
    let made = c.answer_call-called.ensures in
    going_next _ l.at c.in-Some.header l.invariant.within c.in-Some.ensures l.invariant c.loop-count-test.true _ made.performs _ made.part_after

pub returns : goal.returns
returns g c =
    let l = c.loop-count in
    let all : l.count ≡ length c.args.answers.now / call_answer_bytes = omega (arith, l.invariant.few, c.loop-count-test.false) in
    subst (λ (n : ℕ). Runs c.args.first c.args.calls.now c.args.answers.now l.answers (record { registry = l.registry; count = n; end = l.at })) all (ran l.invariant (full l.invariant (omega (arith, c.loop-count-test.false))))
