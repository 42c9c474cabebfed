-- `figures::limited` meets its contract: the figures of each queue are small.
use Prim.Native.Nat.{ℕ}
use mathlib.Core.Path.{refl}
use Rattle.std.proofs.Common.{rules, tests}
use Rattle.std.proofs.lemmas.Iterator.{cases_from_all, YieldsList-from_range}
use Rattle.model.specs.Sizes.{queues_most}
use Rattle.figures.specs.View.{figure_at}
use Rattle.figures.proofs.SizeLaws.{Small}
use Rattle.figures.proofs.RangeLaws.{RangeCases, all_below, true_below}
use Rattle.figures.proofs.limited.Goals as goal

pub returns : goal.returns
returns c =
    let figures = c.args.figures.now in
    let Yes = λ (e : ℕ). Small (figure_at figures e) in
    let No = λ (e : ℕ). Yes e → ⊥ in
    let ran : RangeCases Yes No queues_most c.all.result = cases_from_all _ _ c.all.result Yes No c.all.ensures.ran (YieldsList-from_range 0 queues_most queues_most refl refl) (λ x q k. search (rules, tests, k)) (λ x q k small. search (rules, tests, k, small)) in
    let all = all_below Yes No queues_most c.all.result ran in (
      λ t. record { long = c.requires; rates = λ e h. (all t e h).0; bursts = λ e h. (all t e h).1; frames = λ e h. (all t e h).2 },
      λ l. true_below Yes No queues_most c.all.result ran (λ e h none. none (l.rates e h, l.bursts e h, l.frames e h)),
    )
