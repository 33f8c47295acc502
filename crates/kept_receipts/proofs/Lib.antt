pub mod Spending
pub mod Calls
