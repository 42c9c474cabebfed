pub mod View
pub mod Free
