pub mod OneClient
pub mod Standing
pub mod Stopping
pub mod Driving
