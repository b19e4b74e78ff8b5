pub mod Items
pub mod Falls
