pub mod Fitting
pub mod Writes
