-- The area has room for what is printed, which lies in it.
use Rattle.std.proofs.Common.{arith}
use Rattle.offer_list.proofs.ListLaws.{printed-room}
use Rattle.offers.proofs.print_answers.Goals as goal

pub answer-bytes-requires : goal.answer-bytes-requires
answer-bytes-requires g c = printed-room 240014 c.args.text.now (omega arith) c.requires
