pub mod Reports
pub mod Acceptors
pub mod Places
pub mod Rests
