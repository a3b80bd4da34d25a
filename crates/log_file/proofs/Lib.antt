pub mod Writes
pub mod Holding
pub mod Recovering
pub mod CutLogs
pub mod Opened
