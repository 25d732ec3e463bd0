pub mod Fetching
pub mod Free
pub mod FreeLaws
pub mod Nodes
pub mod PageLaws
pub mod Tree
