pub mod Complete
pub mod Mapping
