pub mod Ended
pub mod OnStore
