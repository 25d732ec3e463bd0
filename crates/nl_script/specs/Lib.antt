pub mod Words
pub mod Spellings
pub mod Grammar
pub mod Script
pub mod Reading
pub mod Causes
