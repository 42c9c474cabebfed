pub mod View
pub mod Checks
