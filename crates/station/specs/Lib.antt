pub mod Numbers
pub mod Views
pub mod Replies
pub mod Memory
