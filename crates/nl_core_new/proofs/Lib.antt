pub mod Begun
pub mod Ready
pub mod Root
pub mod Written
