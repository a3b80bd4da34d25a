pub mod Keeping
pub mod Received
pub mod Asked
pub mod Shown
pub mod Holding
