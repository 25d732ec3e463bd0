pub mod Asking
pub mod Charges
pub mod Rounds
