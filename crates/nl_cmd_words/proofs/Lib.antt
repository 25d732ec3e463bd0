pub mod Causeless
pub mod Digits
pub mod Ending
pub mod Formed
pub mod Found
pub mod Completing
pub mod Reading
pub mod Spelled
