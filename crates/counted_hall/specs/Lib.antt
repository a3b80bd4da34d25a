pub mod Accounts
pub mod Counting
pub mod Marks
