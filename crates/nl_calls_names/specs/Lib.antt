pub mod Dropping
pub mod Gathering
pub mod Naming
pub mod Settling
