pub mod Laws
pub mod Results
pub mod WorkedRun
pub mod WorkedBestEffort
pub mod WorkedGate
