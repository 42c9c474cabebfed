-- `batch::run` meets its contract: the arrays are zeros. Assumes nothing.
use Rattle.batch.specs.View.{no_bits, no_flows, no_figures}
use Rattle.batch.proofs.run.Goals as goal

pub answer_all-requires : goal.answer_all-requires
unfolding no_bits no_flows no_figures
answer_all-requires c = record { consistent_arrays = c.requires.consistent_arrays; answerable = c.requires.answerable }

pub returns : goal.returns
unfolding no_bits no_flows
returns c = c.answer_all.ensures
