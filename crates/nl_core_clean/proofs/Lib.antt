mod Carrying
mod Chosen
mod Counting
mod Emptying
mod Finishing
mod Legal
pub mod Once
mod Steps
