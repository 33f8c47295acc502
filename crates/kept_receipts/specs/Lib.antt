pub mod Receipts
pub mod Replies
