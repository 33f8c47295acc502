pub mod Code
pub mod Label
pub mod Address
pub mod Title
pub mod Rewrite
