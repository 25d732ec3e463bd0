pub mod Kept
pub mod Links
pub mod Lists
pub mod Notices
pub mod Pending
