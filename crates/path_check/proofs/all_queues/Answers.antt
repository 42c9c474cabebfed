-- `path_check::all_queues` meets its contract: nothing is against 14 where each entry is a queue.
use mathlib.Core.Path.{◌≡◌, refl, sym, ap, ◌∙◌}
use mathlib.Core.Bool.{Bool, ◌&&◌}
use mathlib.Core.List.{List, [], ◌∷◌}
use Prim.Native.Nat.{ℕ}
use borrow.Author.Tests.{tests}
use Rattle.std.proofs.Common.{rules}
use Rattle.std.specs.List.{list_all}
use Rattle.std.proofs.lemmas.Iterator.{YieldsList-from_slice}
use Rattle.std.proofs.lemmas.Iterator.Search.{all_from_yields_List}
use Rattle.model.specs.Words.{every}
use Rattle.queue_table.specs.View.{is_queue}
use Rattle.path_check.proofs.EntryLaws.{every-queue}
use Rattle.path_check.proofs.all_queues.Goals as goal

every-listed : (test : ℕ → Bool) (entries : List ℕ) → list_all test entries ≡ every test entries
unfolding every
every-listed test [] = refl
every-listed test (e ∷ entries) = ap (λ (b : Bool). test e && b) (every-listed test entries)

pub returns : goal.returns
returns c =
    let table = c.args.table.now in
    let entries = c.args.entries.now in
    all_from_yields_List (is_queue table) _ _ c.all.result c.all.ensures.ran (YieldsList-from_slice entries cc) (λ x b q k. search (rules, tests))
    ∙ every-listed (is_queue table) entries
    ∙ sym (every-queue table [] entries)
