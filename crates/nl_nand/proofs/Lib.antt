pub mod Cells
pub mod Crashes
pub mod Fresh
pub mod Left
pub mod Notes
pub mod Operations
pub mod Restarts
