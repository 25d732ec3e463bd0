pub mod Changing
pub mod Handling
pub mod Laws
