pub mod States
pub mod Placed
pub mod Begun
pub mod Received
pub mod Forgetting
