pub mod View
pub mod ClaimLaws
