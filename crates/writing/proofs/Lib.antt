pub mod Pieces
pub mod Shifts
pub mod Back
pub mod Types
pub mod Forth
pub mod Alone
pub mod Whole
