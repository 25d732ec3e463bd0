pub mod Judging
pub mod Looks
pub mod Marks
