-- The modules of this crate's definitions, with those of the pages of files.
pub mod Answers
pub mod Effects
pub use Rattle.nl_pseg_pages.specs.Pages
pub mod Segment
pub mod Space
pub mod Cleaning
pub mod Copies
pub mod Tries
pub mod Seen
pub mod Steps
pub mod Opened
pub mod Writes
pub mod Moving
pub mod Kept
