pub mod Prefixes
pub mod Longest
pub mod Plan
