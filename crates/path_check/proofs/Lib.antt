pub mod EntryLaws
pub mod SearchLaws
pub mod MetLaws
pub mod LocateLaws
