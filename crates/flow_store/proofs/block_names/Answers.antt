-- `flow_store::block_names` meets its contract: the part that is looked at is the block.
use borrow.Author.Rules.{rules}
use Rattle.std.proofs.Common.{◌≡◌, ℕ, ◌+◌, ◌-◌, length, get_or, take, drop, ◌∙◌, arith, length-take-le, length-drop}
use Rattle.std.proofs.lemmas.List.{places}
use Rattle.flow_store.specs.View.{block_slots}
use Rattle.flow_store.proofs.block_names.Goals as goal

pub returns : goal.returns
returns c =
    let from = c.args.from in
    let store = c.args.store.now in
    let n = from + block_slots - from in
    let long : length (take n (drop from store)) ≡ n = length-take-le n (drop from store) (omega (arith, length-drop {A = ℕ})) in
    λ e j low lt same.
    let own : from + (j - from) ≡ j = omega arith in
    let here : get_or (take n (drop from store)) (j - from) 0 ≡ get_or store (from + (j - from)) 0 = search (rules, places) in
    c.loop-own.invariant e (j - from) (omega (arith, long)) (rw own at here ∙ same)
