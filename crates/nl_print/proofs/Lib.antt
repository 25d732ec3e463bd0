pub mod Digits
pub mod OnLiterals
pub mod Fields
pub mod Names
