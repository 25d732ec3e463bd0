pub mod Carried
pub mod Laws
pub mod Spaces
pub mod Victim
