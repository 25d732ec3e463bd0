pub mod FileLaws
pub mod Holding
pub mod Reading
pub mod Running
pub mod RunningLaws
