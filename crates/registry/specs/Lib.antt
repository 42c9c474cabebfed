pub mod View
pub mod Decision
pub mod DecisionLaws
pub mod Claim
pub mod ClaimLaws
