pub mod Fronts
pub mod Ranges
pub mod Choosing
pub mod Copying
