pub mod Table
pub mod Tournament
pub mod Used
