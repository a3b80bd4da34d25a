pub mod Live
pub mod Ended
pub mod Seconds
