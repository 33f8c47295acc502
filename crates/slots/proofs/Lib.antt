pub mod Loads
pub mod Sim
pub mod Rest
