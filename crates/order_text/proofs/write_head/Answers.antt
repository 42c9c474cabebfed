-- `order_text::write_head` meets its contract: the fields are written one after the other.
use Rattle.orders.specs.View.{fields_of}
use Rattle.order_text.proofs.TextLaws.{head-written}
use Rattle.order_text.proofs.write_head.Goals as goal

pub returns : goal.returns
returns c = cc (head-written c.args.part.now (fields_of c.args.flow))
