pub mod Answers
pub mod Loads
pub mod Sound
pub mod Became
pub mod Pieces
pub mod View
pub mod Opened
