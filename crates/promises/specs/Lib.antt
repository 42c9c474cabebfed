pub mod Listed
pub mod ListedLaws
pub mod Handover
pub mod HandoverLaws
pub mod Gates
pub mod GatesLaws
