pub mod Beyond
mod Choices
pub mod Numbered
pub mod RoundSteps
pub mod Stops
pub mod Tables
