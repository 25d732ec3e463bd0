pub mod Filters
pub mod IndexProofs
pub mod ListsProofs
pub mod PendingProofs
pub mod Relaying
pub mod StampProofs
