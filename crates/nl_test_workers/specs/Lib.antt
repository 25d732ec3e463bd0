pub mod Failing
pub mod Work
pub mod Script
