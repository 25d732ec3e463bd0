pub mod Rigs
