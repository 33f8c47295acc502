pub mod Ring
pub mod State
pub mod Rings
