pub mod Calls
pub mod Fitting
pub mod Lines
pub mod Making
