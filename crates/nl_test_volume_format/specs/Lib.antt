pub mod Examples
pub mod Faults
pub mod LargeFiles
pub mod Phases
pub mod Trees
