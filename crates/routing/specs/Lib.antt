pub mod Meanings
pub mod Ways
pub mod Deliveries
pub mod Targets
