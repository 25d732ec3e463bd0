pub mod Idle
pub mod New
