pub mod Asking
pub mod Complete
pub mod Cutting
pub mod Examples
pub mod Naming
pub mod OnVolume
pub mod Phases
pub mod Putting
