-- Definitions that laws and contracts of inner functions cite; the laws stand in proofs/Laws.
pub mod Columns
pub mod LinkSteps
