-- `recording::end_line` meets its contract: nothing of the array is left past what is written.
use mathlib.Core.Path.{◌∙◌}
use mathlib.Core.List.{append-nil}
use Rattle.model.specs.Columns.{end_line}
use Rattle.recording.proofs.end_line.Goals as goal

pub returns : goal.returns
returns c = c.write_end.ensures ∙ append-nil (end_line c.args.offset)
