pub mod BitLaws
pub mod WordLaws
