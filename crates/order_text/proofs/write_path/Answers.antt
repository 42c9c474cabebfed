-- `order_text::write_path` meets its contract: what is left of the path goes to `at`, hop by hop.
use Prim.Native.Nat.{ℕ, ◌-◌, ◌*◌}
use mathlib.Core.Path.{◌≡◌, ap, sym, ◌∙◌}
use mathlib.Core.List.{List, ◌++◌}
use native.Mathlib.Omega.{arith}
use lib.ListN.{length, get_or, drop}
use borrow.Rule.Slice.PartMut.{put_mid}
use Rattle.model.specs.Words.{joined}
use Rattle.model.specs.Sizes.{hop_columns}
use Rattle.model.specs.Handover.{hop_text}
use Rattle.model.proofs.Laws.Handover.{hop-long}
use Rattle.queue_table.specs.View.{hop_at}
use Rattle.columns.proofs.PartLaws.{part-long, filling-first, filling-last}
use Rattle.order_text.proofs.TextLaws.{entries-size, joined-map, joined-past, piece-room, piece-next}
use Rattle.order_text.proofs.write_path.Invariants.{entry_text}
use Rattle.order_text.proofs.write_path.Goals as goal

path-size : (entries : List ℕ) → length (joined entry_text entries) ≡ hop_columns * length entries
path-size entries = ap length (sym (joined-map hop_text hop_at entries)) ∙ entries-size entries

pub loop-entry-init : goal.loop-entry-init
loop-entry-init c =
    filling-first (joined entry_text c.args.entries.now) c.args.part.now (omega (arith, path-size c.args.entries.now, c.requires))

pub write_hop-requires : goal.write_hop-requires
write_hop-requires c =
    let entries = c.args.entries.now in
    let now = c.loop-entry in
    part-long now.part now.at hop_columns
    (omega (arith, piece-room entry_text entries now.entry-index 0 c.loop-entry-test.true now.invariant, hop-long (hop_at (get_or entries now.entry-index 0))))

pub loop-entry-preserved : goal.loop-entry-preserved
loop-entry-preserved c =
    let at = c.loop-entry in
    let entries = c.args.entries.now in
    piece-next entry_text entries at.entry-index 0 c.loop-entry-test.true at.invariant hop_columns (sym (hop-long (hop_at (get_or entries at.entry-index 0)))) _
    (ap (put_mid at.at (length at.part - at.at) at.part) c.write_hop.ensures)

pub returns : goal.returns
returns c =
    let entries = c.args.entries.now in
    let part = c.args.part.now in
    filling-last c.loop-entry.invariant (joined-past entry_text entries c.loop-entry.entry-index c.loop-entry-test.false)
    ∙ ap (λ n. joined entry_text entries ++ drop n part) (path-size entries)
    ∙ ap (λ (t : List ℕ). t ++ drop (hop_columns * length entries) part) (sym (joined-map hop_text hop_at entries))
