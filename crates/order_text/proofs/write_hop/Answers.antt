-- `order_text::write_hop` meets its contract: link, then level.
use Rattle.queue_table.specs.View.{hop_at}
use Rattle.order_text.proofs.TextLaws.{hop-written}
use Rattle.order_text.proofs.write_hop.Goals as goal

pub returns : goal.returns
unfolding hop_at
returns c = cc (hop-written c.args.part.now (hop_at c.args.entry))
