pub mod Checking
pub mod CheckFaults
pub mod Replaying
pub mod Walks
