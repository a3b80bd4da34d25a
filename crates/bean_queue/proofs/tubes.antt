-- Which tubes there are.
pub mod TubeSets
pub mod TubeLists
pub mod Named
pub mod Settled
pub mod Listed
pub mod Turning
pub mod Staying
pub mod Reporting
