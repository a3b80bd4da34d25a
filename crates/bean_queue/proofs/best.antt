-- A turn of Serve gives the best job to the first that waits for it, and Serve goes on until there is none.
pub mod Paused
pub mod Served
pub mod Turned
pub mod Best
pub mod Searches
pub mod Takable
pub mod Offering
