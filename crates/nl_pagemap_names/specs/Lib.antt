pub mod Table
pub mod Untried
