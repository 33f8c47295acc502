pub mod Over
pub mod Short
