pub mod EntriesSteps
pub mod PathProofs
pub mod RunProofs
pub mod ListingProofs
pub mod MergeProofs
