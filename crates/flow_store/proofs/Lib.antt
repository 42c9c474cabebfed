pub mod ViewLaws
pub mod ScanLaws
pub mod StartLaws
pub mod PoolLaws
pub mod ChangeLaws
pub mod InsertLaws
pub mod RemoveLaws
