pub mod RecountLaws
pub mod FrameLaws
