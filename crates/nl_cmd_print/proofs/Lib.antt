mod Ending
pub mod Lines
mod Printing
