pub mod Examples
pub mod Serving
pub mod StagedPages
pub mod Staging
pub mod Standing
pub mod Turns
