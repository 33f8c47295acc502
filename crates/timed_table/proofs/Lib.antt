pub mod Steps
pub mod Ends
pub mod Places
