pub mod Back
pub mod Completing
pub mod Course
pub mod Named
pub mod Phases
pub mod Pieces
pub mod Printing
