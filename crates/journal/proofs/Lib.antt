pub mod Rests
pub mod Noting
