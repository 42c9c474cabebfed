-- The text lies in the area that it was written to.
use Rattle.std.proofs.Common.{arith, sym}
use Rattle.std.proofs.lemmas.List.{length-take-le}
use Rattle.model.specs.Sizes.{handover_most}
use Rattle.order_text.proofs.TextLaws.{bytes-within}
use Rattle.recording.proofs.ReplayLaws.{under-zeros}
use Rattle.handover.proofs.print_text.Goals as goal

pub slice_bounds-area-end : goal.slice_bounds-area-end
slice_bounds-area-end g c =
    let few = under-zeros handover_most c.in-Ok.bytes (bytes-within c.in-Ok.ensures) in
    omega (arith, few, c.write.auto.area)

pub slice_bounds-write_all-end : goal.slice_bounds-write_all-end
slice_bounds-write_all-end g c =
    let few = under-zeros handover_most c.in-Ok.bytes (bytes-within c.in-Ok.ensures) in
    sym (length-take-le c.in-Ok.bytes c.write.new.area (omega (arith, few, c.write.auto.area)))
