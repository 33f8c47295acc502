pub mod Firsts
pub mod Powers
