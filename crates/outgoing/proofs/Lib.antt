pub mod Composed
pub mod Codes
pub mod Pieces
