pub mod Drawing
pub mod Forms
pub mod Runs
pub mod Svg
pub mod Text
