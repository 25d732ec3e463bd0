pub mod Freeing
pub mod Standing
pub mod Completing
pub mod Stepping
pub mod Counting
pub mod Committing
pub mod Holding
