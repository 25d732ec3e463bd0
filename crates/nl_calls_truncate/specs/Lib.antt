pub mod Truncating
