pub mod Both
pub mod Complete
pub mod Ends
pub mod Quiet
