pub mod Machine
pub mod Uses
pub mod Figures
