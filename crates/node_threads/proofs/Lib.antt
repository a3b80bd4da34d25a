pub mod Noting
pub mod Seen
pub mod Balances
