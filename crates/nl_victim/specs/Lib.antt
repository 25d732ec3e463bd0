pub mod Search
pub mod Victims
