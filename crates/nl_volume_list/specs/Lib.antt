pub mod Counts
pub mod Entries
pub mod Examples
pub mod Items
pub mod Laws
pub mod Next
pub mod Onward
pub mod Walks
