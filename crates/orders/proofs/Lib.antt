pub mod PathLaws
pub mod CallLaws
pub mod FreeLaws
