pub mod History
pub mod Served
pub mod Seat
pub mod View
pub mod Rule
pub mod Steps
pub mod Examples
