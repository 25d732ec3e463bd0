pub mod Along
pub mod Effects
pub mod Examples
pub mod Laws
