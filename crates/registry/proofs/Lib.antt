pub mod CallLaws
pub mod OpenLaws
pub mod ConsistentLaws
