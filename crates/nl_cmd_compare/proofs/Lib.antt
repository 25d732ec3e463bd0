pub mod Both
pub mod Completing
pub mod Ending
pub mod Lines
pub mod Quiet
pub mod Shapes
pub mod Stepping
