pub mod Course
pub mod Examples
pub mod Headline
pub mod Status
pub mod Streams
pub mod Table
