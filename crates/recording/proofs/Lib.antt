pub mod RunLaws
pub mod ReplayLaws
