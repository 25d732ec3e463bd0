pub mod Changed
pub mod Counting
