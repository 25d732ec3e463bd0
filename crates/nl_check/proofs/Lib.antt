pub mod Gathered
pub mod Images
pub mod Resident
pub mod Told
