pub mod Carried
pub mod Renaming
