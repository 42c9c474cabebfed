-- `figures::checking::links_meet` meets its contract: nothing is found at each link, or something at one.
use Prim.Native.Nat.{ℕ, ◌+◌}
use mathlib.Core.Path.{◌≡◌, refl}
use native.Mathlib.Omega.{arith}
use Rattle.std.proofs.Common.{rules, tests}
use Rattle.std.proofs.lemmas.Iterator.{cases_from_all, YieldsList-from_range}
use Rattle.figures.specs.View.{code_at}
use Rattle.figures.proofs.LinkLaws.{meets-code, codes-meet}
use Rattle.figures.proofs.RangeLaws.{RangeCases, all_below, one_below}
use Rattle.figures.proofs.checking.links_meet.Goals as goal

pub returns : goal.returns
returns c =
    let table = c.args.table.now in
    let n = c.link_count.result in
    let Yes = λ (i : ℕ). code_at table c.args.figures.now i ≡ 0 in
    let No = λ (i : ℕ). Yes i → ⊥ in
    let ran : RangeCases Yes No n c.all.result = cases_from_all _ _ c.all.result Yes No c.all.ensures.ran (YieldsList-from_range 0 n n refl (omega arith)) (λ x q k. search (rules, tests, k)) (λ x q k none. search (rules, tests, k, none)) in
    record {
      sound = λ t fs exact on.
          codes-meet _ c.requires.well_formed.0 fs _ exact on (λ j h. all_below Yes No n c.all.result ran t j (omega (arith, h, c.link_count.ensures)));
      complete = λ f fs exact on all.
          let one = one_below Yes No n c.all.result ran f in
          one.2 (meets-code _ c.requires.well_formed.0 fs _ exact on one.0 (omega (arith, one.1, c.link_count.ensures)) (all (one.0 + 1)));
    }
