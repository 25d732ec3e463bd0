pub mod Command
pub mod Complete
pub mod Ends
pub mod Input
pub mod Others
pub mod Paths
