pub mod Firsts
pub mod Passes
pub mod Scans
pub mod Supers
pub mod Tables
