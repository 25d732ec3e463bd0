pub mod TableProofs
pub mod TableLaws
pub mod Tournaments
pub mod UsedLaws
