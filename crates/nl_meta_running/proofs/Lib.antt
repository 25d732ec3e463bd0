pub mod FileChanges
pub mod GraphStays
pub mod Holds
pub mod Kept
pub mod SameNeeded
