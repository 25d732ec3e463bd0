pub mod Blocked
pub mod Handled
pub mod Laws
