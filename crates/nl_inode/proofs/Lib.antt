pub mod FetchFacts
pub mod FreeLists
pub mod FreeProofs
pub mod MarkTree
pub mod NodeSlots
pub mod PageProofs
