pub mod Gathering
pub mod Texts
