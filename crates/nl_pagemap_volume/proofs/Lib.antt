mod Cleaned
mod Doing
mod Erased
mod Freed
mod Keeping
mod Made
pub mod Served
mod Stepped
