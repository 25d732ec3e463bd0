pub mod Answering
pub mod Commits
