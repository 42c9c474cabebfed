pub mod ViewLaws
pub mod StoreLaws
pub mod TurnLaws
pub mod ReadLaws
pub mod LookupLaws
pub mod ConsistentLaws
pub mod EntryLaws
