pub mod LeanNetworks
pub mod Receipts
