pub mod Counts
pub mod Marking
pub mod Taking
pub mod Judging
