pub mod Seconds
pub mod Ends
pub mod Over
pub mod Pausing
pub mod OneTube
