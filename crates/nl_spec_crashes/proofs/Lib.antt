pub mod Along
pub mod Effects
