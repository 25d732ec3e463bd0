pub mod Checking
pub mod Gathering
pub mod Reading
pub mod Told
