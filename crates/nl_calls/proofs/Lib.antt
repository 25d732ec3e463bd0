pub mod Answered
pub mod Counted
pub mod Ended
pub mod Leaving
pub mod OneTree
pub mod Steps
mod Synced
pub mod Tried
pub mod Uncommitted
