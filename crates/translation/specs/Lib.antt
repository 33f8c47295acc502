pub mod Causes
pub mod Rules
pub mod Trials
pub mod Translating
