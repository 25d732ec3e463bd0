pub mod Refusals
pub mod Answers
pub mod Ending
pub mod Spotting
pub mod Bytes
pub mod Replies
pub mod Due
