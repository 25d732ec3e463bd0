pub mod Reopened
pub mod Rigs
pub mod Standing
