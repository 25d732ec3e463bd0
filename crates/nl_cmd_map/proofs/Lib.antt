pub mod Completing
pub mod Mapped
