-- Hosts together show one world.
pub mod Counting
pub mod Happened
pub mod HandingIn
pub mod Showing
