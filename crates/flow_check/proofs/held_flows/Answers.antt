-- `flow_check::held_flows` meets its contract: in new words no flow number is marked.
use mathlib.Core.Path.{refl}
use Rattle.flow_store.specs.View.{slots_of}
use Rattle.flow_check.specs.View.{number_words}
use Rattle.flow_check.proofs.MarkLaws.{marked-none}
use Rattle.flow_check.proofs.held_flows.Goals as goal

pub slots_stand-requires : goal.slots_stand-requires
slots_stand-requires c =
    (c.requires.0, c.requires.1, marked-none (slots_of c.args.bits.now c.args.store.now) number_words refl)
