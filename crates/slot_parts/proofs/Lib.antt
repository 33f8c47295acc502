pub mod Fits
pub mod Writes
