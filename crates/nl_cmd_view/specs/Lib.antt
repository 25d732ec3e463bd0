pub mod Complete
pub mod Looking
pub mod Getting
pub mod Pieces
