pub mod ContentBytes
pub mod ContentPages
pub mod ContentProofs
pub mod FileProofs
pub mod LoopProofs
pub mod PlaceProofs
