pub mod Bars
pub mod Headings
pub mod Judged
pub mod Lists
pub mod Places
pub mod Texts
