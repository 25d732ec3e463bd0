pub mod Tail
pub mod Texts
