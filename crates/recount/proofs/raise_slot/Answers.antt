-- `recount::raise_slot` meets its contract: the path that a held slot names is its own, and its frames are raised.
use mathlib.Core.Path.{sym, ap, ◌∙◌}
use Rattle.model.specs.Formula.{Aggregate}
use Rattle.recount.proofs.FrameLaws.{slot-free, slot_held}
use Rattle.recount.proofs.raise_slot.Goals as goal

pub returns-then-is_held : goal.returns-then-is_held
returns-then-is_held c =
    slot_held c.args.bits.now c.args.store.now c.args.slot c.args.figures.now (sym c.is_held.ensures ∙ c.if-is_held.true)
    (ap (λ (a : Aggregate). a.frame) c.flow_at.ensures.share_value) c.path_of.ensures c.raise_path.ensures

pub returns-else-is_held : goal.returns-else-is_held
returns-else-is_held c =
    slot-free _ _ _ c.args.figures.now c.requires.readable.2 (sym c.is_held.ensures ∙ c.if-is_held.false)
