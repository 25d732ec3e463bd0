pub mod FileLaws
pub mod PageLaws
pub mod Ranges
pub mod Storing
pub mod Truncating
