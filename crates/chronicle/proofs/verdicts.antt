-- A dump has no fault exactly where it is legal for its order, and one fault at most.
pub mod HappeningCounts
pub mod EndCuts
pub mod FirstPlaces
pub mod Answered
pub mod Legal
pub mod Faultless
pub mod OneFault
pub mod Obeyed
pub mod Walked
