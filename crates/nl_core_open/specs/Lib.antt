pub mod Beginning
pub mod Figures
pub mod Laws
pub mod Opening
