pub mod Opened
pub mod UsedAgain
pub mod Clocks
pub mod Sessions
pub mod Obeyed
