pub mod StepLaws
pub mod ConsistentLaws
pub mod HeldLaws
pub mod ReadLaws
pub mod ReleaseLaws
pub mod ChangeLaws
pub mod OpenLaws
pub mod FoundLaws
