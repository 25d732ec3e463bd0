pub mod Ranges
pub mod Rounds
pub mod Spelled
pub mod SoakLines
pub mod Accepted
