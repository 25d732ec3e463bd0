pub mod Marking
pub mod Tables
