-- `flow_store::path_of` meets its contract: the part has as many entries as the slot's hop count says.
use Rattle.std.proofs.Common.{◌≡◌, ◌+◌, ◌-◌, take, sym, ap, arith, drop-drop}
use Rattle.flow_store.specs.View.{slot_numbers, hops_at, start_at}
use Rattle.flow_store.proofs.path_of.Goals as goal

pub returns : goal.returns
returns c =
    let args = c.args in
    let start = c.start_at-start in
    let hops = c.hops_at-hops in
    let n : slot_numbers + start.result + hops.result - (slot_numbers + start.result) ≡ hops.result = omega arith in
    rw (n, hops.ensures.0, start.ensures.0)
    (ap (take (hops_at args.store.now args.slot)) (sym (drop-drop (start_at args.store.now args.slot) slot_numbers args.store.now)))
