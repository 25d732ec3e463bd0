pub mod Counted
pub mod Dropped
pub mod Fresh
pub mod Labels
pub mod Placed
pub mod Written
