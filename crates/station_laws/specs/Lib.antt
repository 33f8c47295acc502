pub mod Station
pub mod Uses
pub mod Laws
pub mod Figures
