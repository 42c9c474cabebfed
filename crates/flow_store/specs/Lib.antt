pub mod View
pub mod Laws
