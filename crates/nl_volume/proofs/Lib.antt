pub mod Answering
pub mod Begins
pub mod Effected
mod Goals
pub mod Opens
pub mod Trees
pub mod Uncommitted
