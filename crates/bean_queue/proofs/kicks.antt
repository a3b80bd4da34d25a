-- Which jobs a kick makes ready.
pub mod KickCount
pub mod KickFirst
pub mod Kicks
pub mod ReadyAgain
pub mod Counted
