-- How many there are of something.
pub mod Apart
pub mod Passing
pub mod Counted
pub mod Together
pub mod AllShelves
pub mod Tallies
