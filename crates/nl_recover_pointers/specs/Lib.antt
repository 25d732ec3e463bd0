pub mod Blank
pub mod Copies
pub mod Held
pub mod Numbers
pub mod Owners
pub mod Places
pub mod Spare
