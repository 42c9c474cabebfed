pub mod Laws
pub mod FindingLaws
pub mod LevelLaws
