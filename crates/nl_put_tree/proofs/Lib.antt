pub mod Contents
pub mod Renaming
pub mod Steps
pub mod Whole
