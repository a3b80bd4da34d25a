pub mod Bytes
pub mod States
pub mod Logs
pub mod Reads
pub mod Faults
pub mod Opening
