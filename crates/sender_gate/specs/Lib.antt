pub mod View
pub mod Claim
pub mod ClaimLaws
