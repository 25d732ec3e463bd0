pub mod Closing
pub mod Effects
pub mod Moving
pub mod Opened
pub mod Opening
pub mod Reporting
pub mod Standing
