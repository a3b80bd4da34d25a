pub mod Numbers
pub mod Weights
pub mod Hosts
pub mod Words
