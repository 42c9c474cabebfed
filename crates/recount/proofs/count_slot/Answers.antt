-- `recount::count_slot` meets its contract: the path that a held slot names is its own, and is counted in.
use mathlib.Core.Path.{sym, ◌∙◌}
use Rattle.recount.proofs.RecountLaws.{counted-free, counted-held}
use Rattle.recount.proofs.count_slot.Goals as goal

pub returns-then-is_held : goal.returns-then-is_held
returns-then-is_held c =
    counted-held _ _ _ c.args.slot c.requires.countable.1 c.requires.counted (sym c.is_held.ensures ∙ c.if-is_held.true)
    c.flow_at.ensures.share_value c.path_of.ensures c.add_path.ensures

pub returns-else-is_held : goal.returns-else-is_held
returns-else-is_held c =
    counted-free _ _ _ c.args.slot c.requires.countable.1 c.requires.counted (sym c.is_held.ensures ∙ c.if-is_held.false)
