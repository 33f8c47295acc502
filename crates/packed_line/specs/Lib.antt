pub mod Pack
pub mod State
pub mod Lines
pub mod Index
