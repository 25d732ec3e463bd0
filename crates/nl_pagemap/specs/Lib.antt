pub mod Cleaning
pub mod Laws
pub mod Made
pub mod Mapped
pub mod Placing
pub mod Stands
