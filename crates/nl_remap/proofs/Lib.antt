pub mod LinksProofs
pub mod TableProofs
pub mod Ways
