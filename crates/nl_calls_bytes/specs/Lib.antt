pub mod Contents
pub mod InFlight
pub mod Laws
pub mod Ranges
pub mod Refusals
pub mod Room
pub mod Staged
