pub mod Serving
pub mod Volume
