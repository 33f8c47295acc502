pub mod Puts
pub mod Addressed
pub mod Returns
pub mod Classes
pub mod Units
