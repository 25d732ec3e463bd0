pub mod Due
pub mod Looking
pub mod Pieces
pub mod Spots
