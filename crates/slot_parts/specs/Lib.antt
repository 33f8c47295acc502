pub mod Numbers
pub mod Settings
pub mod Copies
pub mod Loads
pub mod Deciding
