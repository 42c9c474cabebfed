pub mod CauseLaws
pub mod HeldLaws
pub mod MarkLaws
pub mod SlotLaws
pub mod PathLaws
