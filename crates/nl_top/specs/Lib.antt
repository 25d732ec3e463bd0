pub mod Complete
pub mod Ends
pub mod Leaving
pub mod PutAndGet
pub mod RunEnds
pub mod Soak
pub mod Telling
