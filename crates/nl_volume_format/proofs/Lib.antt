pub mod Begun
pub mod Damaged
pub mod ReadableOnes
pub mod Safe
