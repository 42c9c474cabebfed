pub mod Calls
pub mod View
pub mod Replay
