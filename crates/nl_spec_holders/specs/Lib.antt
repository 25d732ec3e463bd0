pub mod Examples
pub mod Holding
pub mod Laws
pub mod Lists
pub mod Opening
